-- What a user of samples relies on.
use Rattle.std.specs.Prelude.{ℕ, ◌<◌, ◌≡◌, true, List, ℤ, length}
use Rattle.sheet.specs.Rows.{parameters}
use Rattle.values.specs.Values.{value_at, values_in_range}
use Rattle.ranges.specs.Range.{bits_in_range, analog_in_range}
use Rattle.pins.specs.Pins.{digital_of, analog_of}
use Rattle.sampling.specs.Sample.{settings, place_of, settled, sample_in_range}
use Rattle.pins.specs.declared.Inputs.{Inputs}
use Rattle.sampling.specs.declared.Sample.{Sample}

pub record Laws : Type 0 where
  -- a sample in range leaves values in range and inputs in range
  pub values-in-range : (s : Sample) (vs : List ℤ) → sample_in_range s ≡ true → length vs ≡ 103 → values_in_range parameters vs ≡ true
      → values_in_range parameters (settled (settings s.readings) 8 vs) ≡ true
  pub values_length : (zs : List ℤ) (n : ℕ) (vs : List ℤ) → length (settled zs n vs) ≡ length vs
  -- every value but those eight stays
  pub others_stay : (zs vs : List ℤ) (p : ℕ) → ((i : ℕ) → i < 8 → p ≡ place_of i → ⊥) → value_at (settled zs 8 vs) p ≡ value_at vs p
  pub digital_in_range : (i : Inputs) → bits_in_range (digital_of i) ≡ true
  pub analog-in-range : (s : Sample) → sample_in_range s ≡ true → analog_in_range (analog_of s.inputs) ≡ true
