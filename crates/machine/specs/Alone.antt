-- What the steps of a program leave, in place.
use Rattle.std.specs.Prelude.{ℕ, ◌*◌, ◌≡◌, Bool, true, false, ◌&&◌, List, eqb, ltb, get_or}
use Rattle.words.specs.Word.{pick}
use Rattle.status.specs.declared.Status.{Status}
use Rattle.status.specs.declared.Status.TheVariants.{Done}
use Rattle.registers.specs.Registers.{with_running}
use Rattle.board.specs.declared.Registers.{Registers}
use Rattle.rules.specs.Steps.{step_once, steps}
use Rattle.reg_image.specs.With.{in_core}
use Rattle.reg_image.specs.Image.{registers_of, shaped}
use Rattle.cmd_turns.specs.declared.Left.{Left}
use Rattle.cmd_turns.specs.declared.Left.TheVariants.{Goes, Holds, Stops}
use Rattle.cmd_turns.specs.Turn.{dropped}
use Rattle.cmd_turns.specs.Deed.{seen}
use Rattle.machine.specs.declared.Gone.{Gone}
use Rattle.machine.specs.declared.Made.{Made}
use Rattle.machine.specs.Steps.{Walk}

-- ---- nothing changes: what is lent as a program or as a frame has another length
pub record Stays (l m k n : List ℕ) : Type 0 where
  pub image : k ≡ l
  pub store : n ≡ m

-- one step, as 130 makes it, and its status
pub record StepsAlone (program l m : List ℕ) (s : Status) (k n : List ℕ) : Type 0 where
  pub status : s ≡ (step_once program (registers_of l) m).status
  pub makes : registers_of k ≡ (step_once program (registers_of l) m).registers
  pub store : n ≡ (step_once program (registers_of l) m).store
  pub stays : shaped l ≡ true → shaped k ≡ true

-- the steps of a run
pub record Runs (program : List ℕ) (budget : ℕ) (l m : List ℕ) (r : Made) (k n : List ℕ) : Type 0 where
  pub status : r.status ≡ (steps false program budget (registers_of l) m).status
  pub count : r.steps ≡ (steps false program budget (registers_of l) m).steps
  pub makes : registers_of k ≡ (steps false program budget (registers_of l) m).registers
  pub store : n ≡ (steps false program budget (registers_of l) m).store
  pub stays : shaped l ≡ true → shaped k ≡ true

-- 100 with no step
abbrev pub none_made : Made
none_made = record { status = Done; steps = 0 }

-- ---- before the first step: "so does any step that is not a WAIT drop it". Only the first step can find a wait armed, since one that
-- leaves it armed ends the run.
abbrev pub is_wait : List ℕ → ℕ → Bool
is_wait program a = ltb a 1024 && eqb (get_or program (a * 7) 0) 27

abbrev pub readied : List ℕ → Registers → Registers
readied program r = pick (is_wait program r.core.address) r (dropped r)

-- ---- after the last one
abbrev pub ended : Left → Registers → Registers
ended Goes r = r
ended Holds r = r
ended Stops r = in_core (with_running false) r

abbrev pub is_stop : Left → Bool
is_stop Goes = false
is_stop Holds = false
is_stop Stops = true

abbrev pub finished : Gone → Registers → Registers
finished g r = ended g.left (seen g.accumulator g.address r)

-- ---- steps from the registers as they are to the registers as they are left
pub record Walks (w : Walk) (l : List ℕ) (g : Gone) (k m : List ℕ) : Type 0 where
  pub makes : registers_of k ≡ ended w.turn.left w.turn.registers
  pub store : m ≡ w.turn.store
  pub status : g.status ≡ w.turn.status
  pub unused : g.unused ≡ w.unused
  pub stays : shaped l ≡ true → shaped k ≡ true
