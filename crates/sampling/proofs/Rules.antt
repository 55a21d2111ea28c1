-- A sample in range leaves what it sets in range. Assumes nothing.
use Prim.Native.Nat.{ℕ, zero, suc, ◌≤◌, ◌<◌}
use native.Mathlib.Omega.{arith}
use mathlib.Core.Path.{◌≡◌, refl, ◌∙◌}
use mathlib.Core.Bool.{Bool, true, false, ◌&&◌}
use mathlib.Core.List.{List, [], ◌∷◌}
use lib.IntN.{ℤ, pos}
use lib.ListN.{length, get_or}
use Rattle.words.specs.Word.{pick}
use Rattle.words.proofs.Bools.{is_true, is_T, each}
use Rattle.sheet.specs.Rows.{parameters}
use Rattle.sheet.proofs.Below.{below}
use Rattle.values.specs.Values.{value_at, values_in_range}
use Rattle.values.proofs.Rules.{set_length, set_other, set_in_range}
use Rattle.ranges.specs.Range.{bits_in_range, each_up_to, analog_in_range}
use Rattle.pins.specs.Pins.{inputs_in_range, signals_in_range, is_on, digital_of, analog_of}
use Rattle.sampling.specs.Sample.{settings, place_of, setting_in_range, settings_in_range, readings_in_range, settled, sample_in_range}
use Rattle.sampling.specs.Laws.{Laws}
use Rattle.pins.specs.declared.Inputs.{Inputs}
use Rattle.sampling.specs.declared.Sample.{Sample}

module _ (zs : List ℤ) where
  pub values_length : (n : ℕ) (vs : List ℤ) → length (settled zs n vs) ≡ length vs
  unfolding settled
  values_length zero vs = refl
  values_length (suc n) vs = set_length (settled zs n vs) (place_of n) (get_or zs n (pos 0)) ∙ values_length n vs

  -- each setting is allowed, so the values stay in range one after the other
  stays : (n : ℕ) (vs : List ℤ) → n ≤ 8 → settings_in_range zs ≡ true → length vs ≡ 103 → values_in_range parameters vs ≡ true → values_in_range parameters (settled zs n vs) ≡ true
  unfolding settled settings_in_range
  stays zero vs h g l v = v
  stays (suc n) vs h g l v =
      set_in_range (settled zs n vs) (place_of n) (get_or zs n (pos 0)) (values_length n vs ∙ l) (stays n vs (omega arith) g l v)
      (is_true (setting_in_range zs n) (below (setting_in_range zs) 8 (is_T (settings_in_range zs) g) n (omega arith)))

  -- the values that none of the first n sets
  others : (vs : List ℤ) (p n : ℕ) → ((i : ℕ) → i < n → p ≡ place_of i → ⊥) → value_at (settled zs n vs) p ≡ value_at vs p
  unfolding settled
  others vs p zero h = refl
  others vs p (suc n) h =
      set_other (settled zs n vs) (place_of n) (get_or zs n (pos 0)) p (h n (omega arith))
      ∙ others vs p n (λ i l. h i (omega arith))

-- ---- the parts of a sample
module _ (s : Sample) where
  parts : sample_in_range s ≡ true → (readings_in_range s.readings ≡ true) × (analog_in_range (analog_of s.inputs) ≡ true)
  unfolding sample_in_range
  parts e =
      let digital = each_up_to (pos 1) (s.inputs.digital_0.v ∷ s.inputs.digital_1.v ∷ []) in
      let x = each (readings_in_range s.readings && inputs_in_range s.inputs) (signals_in_range s.signals) e in
      let y = each (readings_in_range s.readings) (inputs_in_range s.inputs) x.0 in
      (y.0, (each digital (analog_in_range (analog_of s.inputs)) y.1).1)

  pub values-in-range : (vs : List ℤ) → sample_in_range s ≡ true → length vs ≡ 103 → values_in_range parameters vs ≡ true → values_in_range parameters (settled (settings s.readings) 8 vs) ≡ true
  values-in-range vs e l v = stays (settings s.readings) 8 vs (omega arith) (parts e).0 l v

  pub analog-in-range : sample_in_range s ≡ true → analog_in_range (analog_of s.inputs) ≡ true
  analog-in-range e = (parts e).1

two : (a b : Bool) → bits_in_range (pick a 1 0 ∷ pick b 1 0 ∷ []) ≡ true
unfolding bits_in_range
two true true = refl
two true false = refl
two false true = refl
two false false = refl

pub digital_in_range : (i : Inputs) → bits_in_range (digital_of i) ≡ true
digital_in_range i = two (is_on i.digital_0.v) (is_on i.digital_1.v)

pub laws : Laws
laws =
    record {
      values-in-range = values-in-range;
      values_length = values_length;
      others_stay = λ zs vs p h. others zs vs p 8 h;
      digital_in_range = digital_in_range;
      analog-in-range = analog-in-range;
    }
