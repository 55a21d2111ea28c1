-- An answer is known by its number: what judges, events, runs, datagrams, a step by value and storing answer in code, by the status or the number of document 01.
use Rattle.std.specs.Prelude.{◌≡◌, Option, Result, IfOk}
use Rattle.status.specs.declared.Status.{Status}
use Rattle.status.specs.declared.Status.TheVariants.{Stored}
use Rattle.status.specs.declared.Refusal.{Refusal}
use Rattle.status.specs.declared.Misfit.{Misfit}
use Rattle.status.specs.Refusal.{judged_as}
use Rattle.status.specs.Misfit.{told}
use Rattle.cmd_turns.specs.declared.Obeyed.{Obeyed}
use Rattle.cmd_turns.specs.Obeyed.{obeyed_as}
use Rattle.machine.specs.declared.Made.{Made}
use Rattle.board_runs.specs.Run.{numbers_of}
use Rattle.board_datagrams.specs.Datagram.{number_answered}
use Rattle.board_by_value.specs.Step.{number_stepped}

pub record Known : Type 0 where
  pub one_judged : (x y : Result Unit Refusal) → judged_as x ≡ judged_as y → x ≡ y
  pub one_told : (x y : Result Unit Misfit) → told x ≡ told y → x ≡ y
  pub one_replied : (x y : Result (Option Status) Misfit) → number_answered x ≡ number_answered y → x ≡ y
  pub one_made : (x y : Result Made Misfit) → numbers_of x ≡ numbers_of y → x ≡ y
  pub one_stepped : (x y : Result Status Misfit) → number_stepped x ≡ number_stepped y → x ≡ y
  -- storing in download mode: the status and the value, and that nothing is done but storing
  pub one_stored : (x y : Result Obeyed Refusal) → IfOk x (λ o. o.status ≡ Stored) → IfOk y (λ o. o.status ≡ Stored) → obeyed_as x ≡ obeyed_as y → x ≡ y
