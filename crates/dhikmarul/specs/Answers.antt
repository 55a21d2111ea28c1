-- The check's three numbers, each in its place.
use Rattle.std.specs.Prelude.{ℕ, List}
use Rattle.numbered.specs.Check.{Checks}

abbrev pub Checked : List ℕ → ℕ → ℕ → ℕ → Type 0
Checked program status address depth = Checks program (record { status = status; address = address; depth = depth })
