-- The laws of ticks. Assumes nothing.
use Prim.Native.Nat.{◌-◌, ◌≤◌, ◌<◌}
use mathlib.Core.Path.{◌≡◌, refl}
use mathlib.Core.Bool.{Bool, true, false, ◌&&◌}
use native.Mathlib.Omega.{arith}
use borrow.Author.Tests.{lt-ltb, le-ltb}
use lib.Dec.{ltb}
use Rattle.words.specs.Word.{pick}
use Rattle.waits.specs.Waits.{counted, ticked}
use Rattle.waits.specs.Laws.{Laws}
use Rattle.waits.specs.declared.Wait.{Wait}

module _ (w : Wait) where
  -- what holds of a wait with its count one lower, and of the wait itself
  by-tick : (P : Wait → Type 0) → P (counted (w.count - 1) w) → P w → P (ticked w)
  unfolding ticked
  by-tick P p q = by (w.armed && ltb 0 w.count)
    where
      by : (t : Bool) → P (pick t (counted (w.count - 1) w) w)
      by true = p
      by false = q

  tick_falls : (ticked w).count ≤ w.count
  tick_falls = by-tick (λ v. v.count ≤ w.count) (omega arith) (omega arith)

  tick_zero : w.count ≡ 0 → ticked w ≡ w
  unfolding ticked
  tick_zero e = by w.armed
    where
      by : (t : Bool) → pick (t && ltb 0 w.count) (counted (w.count - 1) w) w ≡ w
      by true = simp (le-ltb 0 w.count (omega arith))
      by false = refl

  tick_unarmed : w.armed ≡ false → ticked w ≡ w
  unfolding ticked
  tick_unarmed e = simp e

  tick_counts : w.armed ≡ true → 0 < w.count → ticked w ≡ counted (w.count - 1) w
  unfolding ticked
  tick_counts e h = simp (e, lt-ltb 0 w.count h)

pub laws : Laws
laws =
    record {
      tick_armed = λ w. by-tick w (λ v. v.armed ≡ w.armed) refl refl;
      tick_timed = λ w. by-tick w (λ v. v.timed ≡ w.timed) refl refl;
      tick_falls = tick_falls;
      tick_zero = tick_zero;
      tick_unarmed = tick_unarmed;
      tick_counts = tick_counts;
    }
