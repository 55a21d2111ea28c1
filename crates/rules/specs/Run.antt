-- A run of steps: "it ends when the budget is used, the program is not running, or a WAIT holds. It answers the number of steps carried
-- out (a holding WAIT counts) and the last step's status, or 100 with no step."
use Rattle.std.specs.Prelude.{ℕ, zero, suc, ◌+◌, Bool, false, not, ◌&&◌, ◌||◌, List}
use Rattle.words.specs.Word.{pick}
use Rattle.status.specs.declared.Status.{Status}
use Rattle.status.specs.declared.Status.TheVariants.{Done}
use Rattle.rules.specs.Step.{State, Pins, After, step}

pub record Progress : Type 0 where
  pub state : State
  pub status : Status
  pub steps : ℕ
  pub held : Bool

abbrev pub begun : State → Progress
begun x = record { state = x; status = Done; steps = 0; held = false }

-- after one step more; a step leaves a wait armed exactly if it is a WAIT that holds (the law `step_held` of keeping)
abbrev pub onward : After → ℕ → Progress
onward y n = record { state = y.state; status = y.status; steps = n + 1; held = y.state.core.wait.armed }

abbrev pub advanced : List ℕ → Pins → Progress → Progress
advanced program p x = onward (step program p x.state) x.steps

-- alone: a step of 130, which needs no running program
abbrev pub goes_on : Bool → Progress → Bool
goes_on alone x = not x.held && (alone || x.state.core.running)

unfoldable pub run : Bool → List ℕ → Pins → ℕ → Progress → Progress
run alone program p zero x = x
run alone program p (suc n) x = pick (goes_on alone x) (run alone program p n (advanced program p x)) x

-- what is answered of a run
pub record Summary : Type 0 where
  pub state : State
  pub status : Status
  pub steps : ℕ

abbrev pub summary : Progress → Summary
summary x = record { state = x.state; status = x.status; steps = x.steps }
