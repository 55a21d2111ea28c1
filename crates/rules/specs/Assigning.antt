-- Setting and storing a working value.
use Rattle.std.specs.Prelude.{ℕ, Bool, ◌&&◌, List, eqb, ℤ}
use Rattle.words.specs.Word.{pick}
use Rattle.words.specs.declared.Word.{Word}
use Rattle.sheet.specs.Places.{axis_place}
use Rattle.settings.specs.Settings.{settable, kept, is_global, guarded, locked}
use Rattle.status.specs.declared.Status.TheVariants.{Value, Locked}
use Rattle.rules.specs.Effects.{Effect, Refused, Move, Set, Global, Store}

-- "While locked, 5 goes to .. setting 66, 76 or 77"
abbrev pub shut : ℕ → List ℤ → Bool
shut place values = guarded place && locked values

-- "Setting 50 acts as MVP ABS"; globals "written to their cells at once"
unfoldable pub assign : ℕ → Word → List ℤ → Effect
assign place w values =
    pick (eqb place (axis_place 50)) (Move w)
    (pick (is_global place) (pick (shut place values) (Refused Locked) (Global place (kept place w))) (Set place w))

-- 34 AAP, 35 AGP: the accumulator is the value, and judged as one
unfoldable pub take : ℕ → Word → List ℤ → Effect
take place w values = pick (settable place w.v) (assign place w values) (Refused Value)

-- "While locked, 5 goes to STAP, STGP"
unfoldable pub keep : ℕ → List ℤ → Effect
keep place values = pick (locked values) (Refused Locked) (Store place)
