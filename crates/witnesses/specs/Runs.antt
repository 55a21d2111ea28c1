-- What runs of these programs do on a board with default cells.
use Rattle.std.specs.Prelude.{ℕ, zero, suc, ◌≡◌, true, false, List, [], ◌∷◌, pos, replicate}
use Rattle.words.specs.Word.{word}
use Rattle.values.specs.Examples.{default_cells}
use Rattle.status.specs.Status.{number_of}
use Rattle.rules.specs.Step.{State, Pins, step}
use Rattle.board.specs.Registers.{unpowered}
use Rattle.rules.specs.Steps.{state_of, pins_of}
use Rattle.board.specs.declared.Registers.{Registers}
use Rattle.rules.specs.RunEvent as runs
use Rattle.safety.specs.Events.{World, Event, world, after, begins_program, after_all, Quiet, MakesStep}
use Rattle.safety.specs.Events as events
use Rattle.witnesses.specs.Programs.{working, refusing, untaken, deepening}

-- ---- events on a board
abbrev pub power_up : Event
power_up = events.power-up default_cells

abbrev pub datagram : List ℕ → Event
datagram bytes = events.datagram bytes default_cells (replicate 9 0)

-- 129, type 1, value 0, which runs the program from address 0; 131; 255, value 1234; 130
abbrev pub run_from_zero : Event
run_from_zero = datagram (1 ∷ 129 ∷ 1 ∷ 0 ∷ 0 ∷ 0 ∷ 0 ∷ 0 ∷ 131 ∷ [])

abbrev pub reset : Event
reset = datagram (1 ∷ 131 ∷ 0 ∷ 0 ∷ 0 ∷ 0 ∷ 0 ∷ 0 ∷ 132 ∷ [])

abbrev pub restart : Event
restart = datagram (1 ∷ 255 ∷ 0 ∷ 0 ∷ 0 ∷ 0 ∷ 4 ∷ 210 ∷ 214 ∷ [])

abbrev pub one_step : Event
one_step = datagram (1 ∷ 130 ∷ 0 ∷ 0 ∷ 0 ∷ 0 ∷ 0 ∷ 0 ∷ 131 ∷ [])

-- 131 with a wrong checksum, and 130 to another address
abbrev pub damaged : Event
damaged = datagram (1 ∷ 131 ∷ 0 ∷ 0 ∷ 0 ∷ 0 ∷ 0 ∷ 0 ∷ 131 ∷ [])

abbrev pub not_ours : Event
not_ours = datagram (2 ∷ 130 ∷ 0 ∷ 0 ∷ 0 ∷ 0 ∷ 0 ∷ 0 ∷ 132 ∷ [])

abbrev pub run : Event
run = events.run 1000 default_cells

abbrev pub tick : Event
tick = events.tick

-- a sample, by its reached flag
abbrev pub sample : ℕ → Event
sample reached =
    events.sample (
    record {
      readings =
          record {
            ramp_position = pos 0;
            actual_position = pos 0;
            reached = pos reached;
            right = pos 0;
            left = pos 0;
            home = pos 0;
            supply_voltage = pos 240;
            temperature = pos 20;
          };
      inputs =
          record {
            digital_0 = word (pos 0);
            digital_1 = word (pos 0);
            analog_0 = pos 0;
            analog_1 = pos 0;
            analog_2 = pos 0;
          };
      signals = record { eal = word (pos 0); edv = word (pos 0); epo = word (pos 0) };
    }
    )

abbrev pub on_board : List ℕ → World
on_board program = after (world program unpowered) power_up

-- ---- steps and status of a run of 1,000
pub record Ran : Type 0 where
  pub steps : ℕ
  pub status : ℕ

abbrev pub ran_of : runs.Answer → Ran
ran_of a = record { steps = a.steps; status = a.status }

abbrev pub ran : World → Ran
ran w = ran_of (runs.run w.program 1000 w.registers default_cells)

abbrev pub answered : ℕ → ℕ → Ran
answered n s = record { steps = n; status = s }

-- the statuses of so many steps, the first first
abbrev pub met_from : List ℕ → Pins → ℕ → State → List ℕ
met_from program p zero x = []
met_from program p (suc n) x = number_of (step program p x).status ∷ met_from program p n (step program p x).state

abbrev pub met : List ℕ → ℕ → Registers → List ℕ
met program n r = met_from program (pins_of r) n (state_of r default_cells)

-- a program that was run from address 0
abbrev pub begun : List ℕ → World
begun program = after (on_board program) run_from_zero

pub record Runs : Type 0 where
  -- ---- each beginning
  pub power_up_begins : begins_program (world working unpowered) power_up ≡ true
  pub run_begins : begins_program (on_board working) run_from_zero ≡ true
  pub reset_begins : begins_program (on_board working) reset ≡ true
  pub restart_begins : begins_program (on_board working) restart ≡ true
  -- and a reset that is not carried out begins nothing
  pub damaged_not : begins_program (on_board working) damaged ≡ false
  -- ---- a step of 130 is one that the promise speaks of
  pub alone : MakesStep (on_board working) one_step (state_of (on_board working).registers default_cells)
  -- ---- quiet events of every kind: a datagram damaged, not ours, of 130 and of 129, a sample taken and one refused
  pub quiet : Quiet (on_board working) (damaged ∷ not_ours ∷ one_step ∷ run_from_zero ∷ run ∷ sample 1 ∷ sample 2 ∷ tick ∷ power_up ∷ run ∷ [])
  -- ---- `working` is held by a wait for two ticks in the inner call, by one for one tick in the outer, and ended by STOP
  pub working_quiet : Quiet (begun working) (run ∷ tick ∷ tick ∷ run ∷ tick ∷ run ∷ [])
  pub working_1 : ran (begun working) ≡ answered 4 100
  pub working_2 : ran (after_all (begun working) (run ∷ tick ∷ tick ∷ [])) ≡ answered 4 100
  pub working_3 : ran (after_all (begun working) (run ∷ tick ∷ tick ∷ run ∷ tick ∷ [])) ≡ answered 4 100
  pub working_runs : (after_all (begun working) (run ∷ tick ∷ tick ∷ run ∷ [])).registers.core.running ≡ true
  pub working_ends : (after_all (begun working) (run ∷ tick ∷ tick ∷ run ∷ tick ∷ run ∷ [])).registers.core.running ≡ false
  -- ---- `refusing` meets each refusal that is known only while running, in the order of its records
  pub refusing_runs : ran (begun refusing) ≡ answered 21 100
  pub refusing_met : met refusing 21 (begun refusing).registers
      ≡ 4 ∷ 4 ∷ 100 ∷ 4 ∷ 4 ∷ 4 ∷ 4 ∷ 4 ∷ 100 ∷ 4 ∷ 100 ∷ 5 ∷ 5 ∷ 5 ∷ 5 ∷ 5 ∷ 100 ∷ 5 ∷ 5 ∷ 5 ∷ 100 ∷ []
  -- ---- on the bench both programs that the check refuses run to their STOP, and no step of theirs is refused
  pub untaken_runs : ran (begun untaken) ≡ answered 2 100
  pub untaken_met : met untaken 2 (begun untaken).registers ≡ 100 ∷ 100 ∷ []
  pub deepening_runs : ran (begun deepening) ≡ answered 4 100
  pub deepening_met : met deepening 4 (begun deepening).registers ≡ 100 ∷ 100 ∷ 100 ∷ 100 ∷ []
