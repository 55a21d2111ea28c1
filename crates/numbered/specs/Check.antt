-- The check's numbers: those of the one verdict that is right for a program store.
use Rattle.std.specs.Prelude.{◌≡◌, List, ℕ}
use Rattle.checking.specs.Check.{Verdict, answer_of, Right}
use Rattle.checking.specs.declared.Answer.{Answer}
use Rattle.numbered.specs.declared.Checked.{Checked}

abbrev pub numbers_of : Answer → Checked
numbers_of a = record { status = a.number; address = a.point.address; depth = a.point.depth }

pub record Checks (program : List ℕ) (c : Checked) : Type 0 where
  pub verdict : Verdict
  pub right : Right program verdict
  pub numbers : c ≡ numbers_of (answer_of verdict)
