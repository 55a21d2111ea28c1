-- What a user of waits relies on.
use Rattle.std.specs.Prelude.{◌-◌, ◌≤◌, ◌<◌, ◌≡◌, true, false}
use Rattle.waits.specs.Waits.{counted, ticked}
use Rattle.waits.specs.declared.Wait.{Wait}

pub record Laws : Type 0 where
  -- a tick changes no more than the count, and lowers it by one, where the wait is armed and the count above 0
  pub tick_armed : (w : Wait) → (ticked w).armed ≡ w.armed
  pub tick_timed : (w : Wait) → (ticked w).timed ≡ w.timed
  pub tick_falls : (w : Wait) → (ticked w).count ≤ w.count
  pub tick_zero : (w : Wait) → w.count ≡ 0 → ticked w ≡ w
  pub tick_unarmed : (w : Wait) → w.armed ≡ false → ticked w ≡ w
  pub tick_counts : (w : Wait) → w.armed ≡ true → 0 < w.count → ticked w ≡ counted (w.count - 1) w
