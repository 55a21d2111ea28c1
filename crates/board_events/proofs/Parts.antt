-- What is put to its places, part by part, is what a tick and a sample make. Assumes nothing.
use Prim.Native.Nat.{ℕ, ◌-◌}
use native.Mathlib.Omega.{arith}
use mathlib.Core.Path.{◌≡◌, refl, ap, ◌∙◌}
use mathlib.Core.Bool.{Bool, true, false, ◌&&◌}
use mathlib.Core.List.{List, [], ◌∷◌}
use lib.Dec.{ltb}
use lib.IntN.{ℤ}
use lib.ListN.{length, set}
use Rattle.words.specs.Word.{pick}
use Rattle.waits.specs.Waits as waits
use Rattle.waits.specs.declared.Wait.{Wait}
use Rattle.registers.specs.Registers.{with_wait}
use Rattle.flags.specs.Flags.{raised, raised_flag}
use Rattle.pins.specs.Pins.{bit_of, alarms_of}
use Rattle.pins.specs.declared.Inputs.{Inputs}
use Rattle.pins.specs.declared.Signals.{Signals}
use Rattle.rules.specs.Events.{with_tick}
use Rattle.board.specs.declared.Registers.{Registers}
use Rattle.reg_image.specs.With.{in_core, with_count, with_eal, with_edv, with_epo}
use Rattle.reg_image.specs.Rows.{set_digital, set_analog}
use Rattle.reg_image.specs.Image.{registers_of}
use Rattle.reg_image.specs.Numbers.{part_length, words-length}
use Rattle.board_events.specs.Parts.{alarmed, with_inputs}

-- a tick changes the count alone
count-alone : (w : Wait) → waits.counted (waits.ticked w).count w ≡ waits.ticked w
unfolding waits.ticked
count-alone w = by (w.armed && ltb 0 w.count)
  where
    by : (b : Bool) → waits.counted (pick b (waits.counted (w.count - 1) w) w).count w ≡ pick b (waits.counted (w.count - 1) w) w
    by true = refl
    by false = refl

pub ticked-so : (r : Registers) (w : Wait) → w ≡ waits.ticked r.core.wait → in_core (with_count w.count) r ≡ with_tick r
ticked-so r w e =
    ap (λ (v : Wait). in_core (with_count v.count) r) e ∙ ap (λ (v : Wait). in_core (with_wait v) r) (count-alone r.core.wait)

-- three flags
pub alarmed-so :
    (r : Registers) (s : Signals) (a b c : ℕ)
    → a ≡ raised_flag (alarms_of s).eal r.core.flags.eal
    → b ≡ raised_flag (alarms_of s).edv r.core.flags.edv
    → c ≡ raised_flag (alarms_of s).epo r.core.flags.epo
    → in_core (with_epo c) (in_core (with_edv b) (in_core (with_eal a) r)) ≡ alarmed s r
unfolding raised
alarmed-so r s a b c p q t = simp (p, q, t)

-- two digital and three analog inputs
two : (l : List ℕ) (a b : ℕ) → length l ≡ 2 → set (set l 0 a) 1 b ≡ a ∷ b ∷ []
two [] a b h = absurd (omega (arith, h))
two (x ∷ []) a b h = absurd (omega (arith, h))
two (x ∷ y ∷ []) a b h = refl
two (x ∷ y ∷ z ∷ l) a b h = absurd (omega (arith, h))

three : (l : List ℤ) (a b c : ℤ) → length l ≡ 3 → set (set (set l 0 a) 1 b) 2 c ≡ a ∷ b ∷ c ∷ []
three [] a b c h = absurd (omega (arith, h))
three (x ∷ []) a b c h = absurd (omega (arith, h))
three (x ∷ y ∷ []) a b c h = absurd (omega (arith, h))
three (x ∷ y ∷ z ∷ []) a b c h = refl
three (x ∷ y ∷ z ∷ u ∷ l) a b c h = absurd (omega (arith, h))

pub digital-length : (l : List ℕ) → length l ≡ 137 → length (registers_of l).digital ≡ 2
unfolding registers_of
digital-length l n = part_length l 20 2 (omega (arith, n))

pub analog-length : (l : List ℕ) → length l ≡ 137 → length (registers_of l).analog ≡ 3
unfolding registers_of
analog-length l n = words-length l 22 3 (omega (arith, n))

pub inputs-so :
    (r : Registers) (i : Inputs) (a b : ℕ) (x y z : ℤ)
    → length r.digital ≡ 2
    → length r.analog ≡ 3
    → a ≡ bit_of i.digital_0.v
    → b ≡ bit_of i.digital_1.v
    → x ≡ i.analog_0
    → y ≡ i.analog_1
    → z ≡ i.analog_2
    → set_analog 2 z (set_analog 1 y (set_analog 0 x (set_digital 1 b (set_digital 0 a r)))) ≡ with_inputs i r
inputs-so r i a b x y z h k p q t u v =
    rw (two r.digital a b h, three r.analog x y z k, p, q, t, u, v)
