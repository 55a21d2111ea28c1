-- The program check passes a stored program exactly when no bad point is reachable from address 0 (demand 3). "A refusal names the reachable bad
-- point of lowest address, then lowest depth, and its status by the order above."
use Rattle.std.specs.Prelude.{ℕ, ◌≡◌, List, Result, Ok, Err, length}
use Rattle.store.specs.Store.{program_length}
use Rattle.status.specs.Status.{number_of}
use Rattle.status.specs.declared.Status.{Status}
use Rattle.points.specs.Points.{first}
use Rattle.points.specs.Reach.{Safe, Lowest}
use Rattle.points.specs.declared.Point.{Point}
use Rattle.leading.specs.Leading.{way_at}
use Rattle.checking.specs.declared.Fault.{Fault}
use Rattle.checking.specs.declared.Fault.TheVariants as fault
use Rattle.checking.specs.declared.Answer.{Answer}

-- ---- the verdicts
abbrev pub Verdict : Type 0
Verdict = Result Unit Fault

abbrev pub Passed : Verdict
Passed = Ok tt

abbrev pub Length : Verdict
Length = Err fault.Length

abbrev pub Refused : Point → Status → Verdict
Refused p s = Err (fault.Bad p s)

abbrev pub answer : ℕ → Point → Answer
answer n p = record { number = n; point = p }

-- 01's number of a verdict, and the point that it names; "With 20 .. every other number answered is 0", and a passed check names (0, 0)
abbrev pub answer_of : Verdict → Answer
answer_of (Ok _) = answer 100 first
answer_of (Err fault.Length) = answer 20 first
answer_of (Err (fault.Bad p s)) = answer (number_of s) p

-- a verdict is right for a program store; "20: a lent store or buffer of another length"
abbrev pub Right : List ℕ → Verdict → Type 0
Right program (Ok _) = (length program ≡ program_length) × Safe (way_at program)
Right program (Err fault.Length) = length program ≡ program_length → ⊥
Right program (Err (fault.Bad p s)) = (length program ≡ program_length) × Lowest (way_at program) p s

-- and the numbers are its own
abbrev pub Checked : List ℕ → Verdict → Answer → Type 0
Checked program v a = Right program v × (a ≡ answer_of v)
