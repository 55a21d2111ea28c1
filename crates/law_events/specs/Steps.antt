-- What 01 says of steps, and of the runs and the 130 that make them.
use Rattle.std.specs.Prelude.{ℕ, zero, suc, ◌+◌, ◌≤◌, ◌<◌, ◌≡◌, ◌⊎◌, Bool, true, false, ◌&&◌, List, leb, Ok}
use Rattle.wire.specs.declared.Command.{Command}
use Rattle.store.specs.Store.{record_at}
use Rattle.status.specs.Status.{number_of}
use Rattle.status.specs.declared.Status.TheVariants.{Done, Unknown, Value}
use Rattle.serial.specs.Serial.{taken_of}
use Rattle.registers.specs.Registers.{moved, stopped}
use Rattle.judge.specs.Judge.{judged}
use Rattle.rules.specs.Step.{State, Pins, after, only, step}
use Rattle.rules.specs.Steps.{Turn, state_of, step_once}
use Rattle.board.specs.declared.Registers.{Registers}
use Rattle.replying.specs.Reply.{byte_of}
use Rattle.reg_image.specs.Image.{registers_of}
use Rattle.reg_image.specs.With.{in_core}
use Rattle.reg_range.specs.Range.{stands}
use Rattle.board_datagrams.specs.Datagram.{Answers}
use Rattle.rules.specs.RunEvent.{lent}
use Rattle.board_runs.specs.Run.{Runs, Ran}
use Rattle.law_events.specs.Waits.{wait_holds}

-- ---- so many of 130's steps, one after the other: registers, cells, and the last one's status, "or 100 with no step"
abbrev pub before : Registers → List ℕ → Turn
before r m = record { registers = r; store = m; status = Done }

unfoldable pub single_steps : List ℕ → ℕ → Turn → Turn
single_steps program zero t = t
single_steps program (suc k) t = single_steps program k (step_once program t.registers t.store)

-- a WAIT held in the last of so many steps
unfoldable pub held : List ℕ → Turn → ℕ → Bool
held program t zero = false
held program t (suc j) = wait_holds program (state_of (single_steps program j t).registers (single_steps program j t).store)

-- "it ends when the budget is used, the program is not running, or a WAIT holds": of k steps none was made where one of these was so,
-- and one of them is so after the last
pub record Ends (program : List ℕ) (budget : ℕ) (t : Turn) (k : ℕ) : Type 0 where
  pub within : k ≤ budget
  pub going : (j : ℕ) → j < k → ((single_steps program j t).registers.core.running ≡ true) × (held program t j ≡ false)
  pub ended : (k ≡ budget) ⊎ (((single_steps program k t).registers.core.running ≡ false) ⊎ (held program t k ≡ true))

-- the address one up, and no wait; nothing else
abbrev pub skipped : Registers → Registers
skipped r = in_core (moved (r.core.address + 1)) r

pub record Steps : Type 0 where
  -- "Other refused steps change only the address, by one, and drop a wait."
  pub refused_step : (program : List ℕ) (p : Pins) (x : State) → x.core.address < 1024 → ((step program p x).status ≡ Done → ⊥)
      → ((step program p x).status ≡ Unknown → ⊥) → (step program p x).state ≡ only (moved (x.core.address + 1) x.core) x
  -- "Address 1,024: status 4, stops. Commands not listed above, and 128 up: status 2, stops. In both the address stays."
  pub outside_step : (program : List ℕ) (p : Pins) (x : State) → 1024 ≤ x.core.address
      → step program p x ≡ after Value (only (stopped x.core) x)
  pub unknown_step : (program : List ℕ) (p : Pins) (x : State) → x.core.address < 1024
      → judged (record_at program x.core.address) ≡ Unknown → step program p x ≡ after Unknown (only (stopped x.core) x)
  -- "a WAIT holds": exactly then a step leaves a wait armed, and that is what ends a run
  pub armed_holds : (program : List ℕ) (p : Pins) (x : State) → (step program p x).state.core.wait.armed ≡ wait_holds program x
  -- "130 one step": a datagram that is answered 100 and carries 130
  pub single_step : (bytes l p m b : List ℕ) (n : ℕ) (k p' m' b' : List ℕ) (c : Command) → Answers bytes l p m b n k p' m' b'
      → taken_of (byte_of (registers_of l).values 66) bytes ≡ Ok c → c.number ≡ 130 → n ≡ 100
      → (registers_of k ≡ (step_once p (registers_of l) m).registers) × (m' ≡ (step_once p (registers_of l) m).store) × (p' ≡ p)
  -- "a run equals that many single steps": it leaves what so many of 130's steps leave, and answers the last one's status
  pub run_is_steps : (program : List ℕ) (budget : ℕ) (l m : List ℕ) (r : Ran) (k m' : List ℕ) → Runs program budget l m r k m'
      → lent program m && (stands l && leb budget 1000) ≡ true
      → (registers_of k ≡ (single_steps program r.steps (before (registers_of l) m)).registers)
      × (m' ≡ (single_steps program r.steps (before (registers_of l) m)).store)
      × (r.status ≡ number_of (single_steps program r.steps (before (registers_of l) m)).status)
  pub run_ends : (program : List ℕ) (budget : ℕ) (l m : List ℕ) (r : Ran) (k m' : List ℕ) → Runs program budget l m r k m'
      → lent program m && (stands l && leb budget 1000) ≡ true → Ends program budget (before (registers_of l) m) r.steps
  -- a refused step at the event: 130, whose step has another status than 100 and 2
  pub refused_130 : (bytes l p m b : List ℕ) (n : ℕ) (k p' m' b' : List ℕ) (c : Command) → Answers bytes l p m b n k p' m' b'
      → taken_of (byte_of (registers_of l).values 66) bytes ≡ Ok c → c.number ≡ 130 → n ≡ 100 → (registers_of l).core.address < 1024
      → ((step_once p (registers_of l) m).status ≡ Done → ⊥) → ((step_once p (registers_of l) m).status ≡ Unknown → ⊥)
      → (registers_of k ≡ skipped (registers_of l)) × (m' ≡ m) × (p' ≡ p)
  -- and a run that answers one step and another status than 100 and 2
  pub refused_run : (program : List ℕ) (budget : ℕ) (l m : List ℕ) (r : Ran) (k m' : List ℕ) → Runs program budget l m r k m'
      → lent program m && (stands l && leb budget 1000) ≡ true → r.steps ≡ 1 → (registers_of l).core.address < 1024
      → (r.status ≡ 100 → ⊥) → (r.status ≡ 2 → ⊥) → (registers_of k ≡ skipped (registers_of l)) × (m' ≡ m)
