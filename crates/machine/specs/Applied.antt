-- A deed done in place.
use Rattle.std.specs.Prelude.{ℕ, ◌≡◌, true, List, ℤ, pos}
use Rattle.words.specs.Word.{word}
use Rattle.words.specs.declared.Word.{Word}
use Rattle.status.specs.declared.Status.{Status}
use Rattle.status.specs.declared.Status.TheVariants.{Done}
use Rattle.sheet.specs.Places.{axis_place}
use Rattle.registers.specs.declared.Order.TheVariants.{Position}
use Rattle.stack.specs.Stack.{pushed, popped}
use Rattle.board.specs.declared.Registers.{Registers}
use Rattle.reg_image.specs.Image.{registers_of, shaped, Leaves}
use Rattle.reg_image.specs.With.{in_core, with_eto, ordered}
use Rattle.reg_image.specs.Rows.{set_value_at}
use Rattle.cmd_turns.specs.declared.Left.TheVariants.{Goes, Holds, Stops}
use Rattle.cmd_turns.specs.Turn.{Turn, turn, with_stack, dropped}
use Rattle.cmd_turns.specs.Deed.{seen}
use Rattle.machine.specs.declared.Stepped.{Stepped}

-- the turn that accumulator, address, status and what is left of the program make with an image and a store
abbrev pub turn_of : Stepped → List ℕ → List ℕ → Turn
turn_of s l m = turn (seen s.accumulator s.address (registers_of l)) m s.status s.left

-- the places of what is carried by value keep what they had
pub record Kept (l k : List ℕ) : Type 0 where
  pub accumulator : (registers_of k).core.accumulator ≡ (registers_of l).core.accumulator
  pub address : (registers_of k).core.address ≡ (registers_of l).core.address

pub record Makes (t : Turn) (l : List ℕ) (s : Stepped) (k m : List ℕ) : Type 0 where
  pub makes : turn_of s k m ≡ t
  pub kept : Kept l k
  pub stays : shaped l ≡ true → shaped k ≡ true

-- an address taken off the stack
pub record Pops (l : List ℕ) (back : ℕ) (k : List ℕ) : Type 0 where
  pub address : back ≡ (popped (registers_of l).entries (registers_of l).core.depth).back
  pub leaves : Leaves (λ r. with_stack (popped r.entries r.core.depth).stack r) l k

-- ---- parts of turns
abbrev pub goes : Word → ℕ → Status → Stepped
goes a n s = record { accumulator = a; address = n; status = s; left = Goes }

abbrev pub holds : Word → ℕ → Stepped
holds a n = record { accumulator = a; address = n; status = Done; left = Holds }

abbrev pub stops : Word → ℕ → Status → Stepped
stops a n s = record { accumulator = a; address = n; status = s; left = Stops }

abbrev pub pushing : ℕ → Registers → Registers
pushing back r = with_stack (pushed r.entries r.core.depth back) r

abbrev pub moving : ℤ → Registers → Registers
moving z r = in_core (ordered Position (word (pos 0))) (set_value_at (axis_place 50) z r)

abbrev pub timed_out : Registers → Registers
timed_out r = dropped (in_core (with_eto 1) r)
