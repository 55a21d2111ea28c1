-- Steps of the program, over the registers whole.
use Rattle.std.specs.Prelude.{ℕ, Bool, List}
use Rattle.status.specs.declared.Status.{Status}
use Rattle.rules.specs.Step.{State, Pins, After, state, pins, step}
use Rattle.rules.specs.Run.{Summary, begun, run, summary}
use Rattle.board.specs.declared.Registers.{Registers}

-- what a step can change: registers and the parameter store; and what it reads beside
abbrev pub state_of : Registers → List ℕ → State
state_of r m = state r.core r.entries r.values r.outputs m

abbrev pub pins_of : Registers → Pins
pins_of r = pins r.digital r.analog

-- the registers with what a step left; download and inputs stay
abbrev pub with_state : State → Registers → Registers
with_state x r =
    record {
      core = x.core;
      download = r.download;
      outputs = x.outputs;
      digital = r.digital;
      analog = r.analog;
      entries = x.entries;
      values = x.values;
    }

-- ---- so many steps: registers and parameter store after them, the last one's status, and how many were made
pub record Steps : Type 0 where
  pub registers : Registers
  pub store : List ℕ
  pub status : Status
  pub steps : ℕ

abbrev pub steps_of : Summary → Registers → Steps
steps_of x r = record { registers = with_state x.state r; store = x.state.store; status = x.status; steps = x.steps }

unfoldable pub steps : Bool → List ℕ → ℕ → Registers → List ℕ → Steps
steps alone program n r m = steps_of (summary (run alone program (pins_of r) n (begun (state_of r m)))) r

-- ---- one step, whether or not the program runs: registers and parameter store after it, and its status
pub record Turn : Type 0 where
  pub registers : Registers
  pub store : List ℕ
  pub status : Status

abbrev pub turn_of : After → Registers → Turn
turn_of y r = record { registers = with_state y.state r; store = y.state.store; status = y.status }

unfoldable pub step_once : List ℕ → Registers → List ℕ → Turn
step_once program r m = turn_of (step program (pins_of r) (state_of r m)) r
