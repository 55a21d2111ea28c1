-- The board's events in a row, and the steps that they make.
use Rattle.std.specs.Prelude.{ℕ, ◌<◌, ◌≡◌, Bool, true, false, not, ◌&&◌, ◌||◌, List, [], ◌∷◌, eqb, pos, Result, Ok, Err}
use Rattle.order.specs.Order.{same_w}
use Rattle.wire.specs.declared.Command.{Command}
use Rattle.serial.specs.Serial.{taken_of}
use Rattle.serial.specs.declared.NotTaken.{NotTaken}
use Rattle.serial.specs.declared.NotTaken.TheVariants.{NotOurs, Damaged}
use Rattle.sampling.specs.declared.Sample.{Sample}
use Rattle.rules.specs.Step.{State}
use Rattle.rules.specs.Run.{begun}
use Rattle.rules.specs.RunLaws.{walked}
use Rattle.rules.specs.Steps.{state_of, pins_of}
use Rattle.board.specs.declared.Registers.{Registers}
use Rattle.rules.specs.Events as events
use Rattle.rules.specs.RunEvent as runs
use Rattle.replying.specs.Reply.{byte_of}
use Rattle.rules.specs.Datagram.{board}
use Rattle.rules.specs.Datagram as datagrams

-- "Events: datagram, sample, tick, run, power-up", each with the parameter store and the reply buffer that it is lent, which may be
-- any; the records are lent to all
pub data Event : Type 0 where
  -- the bytes, the parameter store, the reply buffer
  datagram : List ℕ → List ℕ → List ℕ → Event
  sample : Sample → Event
  tick : Event
  -- the budget, the parameter store
  run : ℕ → List ℕ → Event
  -- the parameter store
  power-up : List ℕ → Event

-- ---- the records and the registers, and what an event leaves of them
pub record World : Type 0 where
  pub program : List ℕ
  pub registers : Registers

abbrev pub world : List ℕ → Registers → World
world p r = record { program = p; registers = r }

-- what a datagram leaves and answers
abbrev pub told : World → List ℕ → List ℕ → List ℕ → datagrams.After
told w bytes store reply = datagrams.datagram bytes (board w.registers w.program store reply)

abbrev pub kept : datagrams.Board → World
kept x = world x.program x.registers

-- only a datagram can write a record
unfoldable pub after : World → Event → World
after w (datagram bytes store reply) = kept (told w bytes store reply).board
after w (sample s) = world w.program (events.sampled s w.registers).registers
after w tick = world w.program (events.ticked w.registers).registers
after w (run budget store) = world w.program (runs.run w.program budget w.registers store).registers
after w (power-up store) = world w.program (events.powered_up store w.registers).registers

-- ---- commands that were carried out
abbrev pub carries : (Command → Bool) → Result Command NotTaken → Bool
carries of (Err NotOurs) = false
carries of (Err (Damaged n)) = false
carries of (Ok c) = of c

-- a datagram that is answered 100 and carries such a command
abbrev pub obeys : (Command → Bool) → World → List ℕ → List ℕ → List ℕ → Bool
obeys of w bytes store reply =
    eqb (told w bytes store reply).status 100 && carries of (taken_of (byte_of w.registers.values 66) bytes)

-- "Begun at address 0 means power-up, 131, or 129 type 1 with value 0, carried out and not refused"; "255 value 1234: as power-up"
abbrev pub begins_by : Command → Bool
begins_by c =
    eqb c.number 131 || ((eqb c.number 129 && eqb c.kind 1) && same_w c.value.v (pos 0)) || eqb c.number 255

unfoldable pub begins_program : World → Event → Bool
begins_program w (datagram bytes store reply) = obeys begins_by w bytes store reply
begins_program w (sample s) = false
begins_program w tick = false
begins_program w (run budget store) = false
begins_program w (power-up store) = eqb (events.powered_up store w.registers).status 100

-- "no command runs it from another named address": 129 type 1 with another value than 0
abbrev pub from_another : Command → Bool
from_another c = (eqb c.number 129 && eqb c.kind 1) && not (same_w c.value.v (pos 0))

unfoldable pub runs_from_another : World → Event → Bool
runs_from_another w (datagram bytes store reply) = obeys from_another w bytes store reply
runs_from_another w (sample s) = false
runs_from_another w tick = false
runs_from_another w (run budget store) = false
runs_from_another w (power-up store) = false

-- ---- events in a row
-- "Each event after that is lent the records and handed the registers as the one before left them."
abbrev pub after_all : World → List Event → World
after_all w [] = w
after_all w (e ∷ es) = after_all (after w e) es

-- no event of the row writes a record, or runs the program from another named address; "stopping, stepping and 129 type 0 after that
-- keep it begun"
pub data Quiet : World → List Event → Type 0 where
  none : {w : World} → Quiet w []
  also : {w : World} {e : Event} {es : List Event} → (after w e).program ≡ w.program → runs_from_another w e ≡ false → Quiet (after w e) es
      → Quiet w (e ∷ es)

-- ---- the steps that an event makes, each by the state that it is made from
-- a run makes the steps that it answers (`run_steps` of running: it is so many single steps), and 130 makes one (`single_step` of
-- promises)
pub data MakesStep (w : World) : Event → State → Type 0 where
  in_run : {budget : ℕ} {store : List ℕ} (j : ℕ) → j < (runs.run w.program budget w.registers store).steps
      → MakesStep w (run budget store) (walked w.program (pins_of w.registers) j (begun (state_of w.registers store))).state
  alone : {bytes store reply : List ℕ} → obeys (λ c. eqb c.number 130) w bytes store reply ≡ true
      → MakesStep w (datagram bytes store reply) (state_of w.registers store)
