-- A run in place. "20, then 23 (..), then .. 22"; "nothing changes, 0 steps".
use Rattle.std.specs.Prelude.{ℕ, ◌≡◌, true, false, ◌&&◌, List, leb, Result, Ok, Err}
use Rattle.status.specs.Status.{number_of}
use Rattle.status.specs.Misfit.{misfit_number}
use Rattle.status.specs.declared.Misfit.{Misfit}
use Rattle.rules.specs.RunEvent.{Answer, lent, run_if}
use Rattle.reg_image.specs.Image.{registers_of, shaped}
use Rattle.reg_range.specs.Range.{stands}
use Rattle.machine.specs.declared.Made.{Made}

-- what a run comes to, over the registers that the image stands for
unfoldable pub ran : List ℕ → ℕ → List ℕ → List ℕ → Answer
ran program budget l m = run_if (stands l) program budget (registers_of l) m

-- the two numbers that are answered: the last step's status, or 20, 22, 23, and the steps
pub record Ran : Type 0 where
  pub status : ℕ
  pub steps : ℕ

abbrev pub answered : ℕ → ℕ → Ran
answered status steps = record { status = status; steps = steps }

abbrev pub numbers_of : Result Made Misfit → Ran
numbers_of (Ok made) = answered (number_of made.status) made.steps
numbers_of (Err misfit) = answered (misfit_number misfit) 0

-- the two numbers; what is left of the image and the parameter store; and a run that is refused leaves the image as it was
pub record Runs (program : List ℕ) (budget : ℕ) (l m : List ℕ) (r : Ran) (k n : List ℕ) : Type 0 where
  pub status : r.status ≡ (ran program budget l m).status
  pub steps : r.steps ≡ (ran program budget l m).steps
  pub makes : registers_of k ≡ (ran program budget l m).registers
  pub store : n ≡ (ran program budget l m).store
  pub stays : shaped l ≡ true → shaped k ≡ true
  pub kept : lent program m && (stands l && leb budget 1000) ≡ false → k ≡ l
