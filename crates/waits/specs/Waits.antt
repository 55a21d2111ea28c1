-- A wait, and what a tick makes of it.
use Rattle.std.specs.Prelude.{ℕ, ◌-◌, false, ◌&&◌, ltb}
use Rattle.words.specs.Word.{pick}
use Rattle.waits.specs.declared.Wait.{Wait}

-- "A dropped wait and freed stack entries become 0"
abbrev pub dropped_wait : Wait
dropped_wait = record { armed = false; count = 0; timed = false }

-- with another count
abbrev pub counted : ℕ → Wait → Wait
counted n w = record { armed = w.armed; count = n; timed = w.timed }

-- "lowers an armed wait's count by one if it is above 0"
unfoldable pub ticked : Wait → Wait
ticked w = pick (w.armed && ltb 0 w.count) (counted (w.count - 1) w) w
