-- "A run has a budget of 0 to 1,000 steps"; "For the other events 20, then 23 (..), then .. 22"; "nothing changes, 0 steps".
use Rattle.std.specs.Prelude.{ℕ, Bool, false, ◌&&◌, List, leb}
use Rattle.store.specs.Store.{is_program_store, is_parameter_store}
use Rattle.words.specs.Word.{pick}
use Rattle.status.specs.Status.{number_of}
use Rattle.board.specs.Range.{registers_in_range}
use Rattle.rules.specs.Steps.{Steps, steps}
use Rattle.board.specs.declared.Registers.{Registers}

-- registers, parameter store and the two numbers that are answered: the last step's status, or 20, 22, 23, and the steps
pub record Answer : Type 0 where
  pub registers : Registers
  pub store : List ℕ
  pub status : ℕ
  pub steps : ℕ

-- nothing changes, 0 steps
abbrev pub refused : ℕ → Registers → List ℕ → Answer
refused n r m = record { registers = r; store = m; status = n; steps = 0 }

abbrev pub after_steps : Steps → Answer
after_steps x = record { registers = x.registers; store = x.store; status = number_of x.status; steps = x.steps }

-- "20: a lent store .. of another length": what a run is lent
abbrev pub lent : List ℕ → List ℕ → Bool
lent program m = is_program_store program && is_parameter_store m

-- what a run comes to, in document 01's order, where it is known whether the registers handed in are in range
abbrev pub run_if : Bool → List ℕ → ℕ → Registers → List ℕ → Answer
run_if in_range program budget r m =
    pick (lent program m)
    (pick in_range
    (pick (leb budget 1000) (after_steps (steps false program budget r m)) (refused 22 r m))
    (refused 23 r m))
    (refused 20 r m)

unfoldable pub run : List ℕ → ℕ → Registers → List ℕ → Answer
run program budget r m = run_if (registers_in_range r) program budget r m
