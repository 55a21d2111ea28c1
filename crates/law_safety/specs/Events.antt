-- The events of the C door in a row, each handed the image and lent the records as the one before left them, and the steps they make.
use Rattle.std.specs.Prelude.{ℕ, ◌<◌, ◌≡◌, Bool, true, false, ◌&&◌, List, eqb, ℤ, length}
use Rattle.words.specs.Laws.{AllBytes}
use Rattle.wire.specs.declared.Command.{Command}
use Rattle.serial.specs.Serial.{taken_of}
use Rattle.rules.specs.Step.{State}
use Rattle.rules.specs.Run.{begun}
use Rattle.rules.specs.RunLaws.{walked}
use Rattle.rules.specs.Steps.{state_of, pins_of}
use Rattle.replying.specs.Reply.{byte_of}
use Rattle.safety.specs.Events.{carries, begins_by, from_another}
use Rattle.reg_image.specs.Image.{registers_of}
use Rattle.board_datagrams.specs.Datagram.{Answers}
use Rattle.board_runs.specs.Run.{Runs, Ran}
use Rattle.law_rows.specs.Rows.{PowersUp, Samples, Ticks}

-- "Events: datagram, sample, tick, run, power-up", each with what it is given beside the image and the records, which may be any
pub data Event : Type 0 where
  -- the cells
  power-up : List ℕ → Event
  -- the fields
  sample : List ℤ → Event
  tick : Event
  -- the bytes, the cells, the reply buffer
  datagram : List ℕ → List ℕ → List ℕ → Event
  -- the budget, the cells
  run : ℕ → List ℕ → Event

-- by the contract of its function: the event, the image and the records before it, the number answered, the image and the records after
-- it. Only a datagram can write a record. What is left of the cells and the reply buffer may be lent on or not.
pub data Happens : Event → List ℕ → List ℕ → ℕ → List ℕ → List ℕ → Type 0 where
  powers_up : {cells l p k : List ℕ} {n : ℕ} → PowersUp cells l k n → Happens (power-up cells) l p n k p
  samples : {fields : List ℤ} {l p k : List ℕ} {n : ℕ} → Samples fields l k n → Happens (sample fields) l p n k p
  ticks : {l p k : List ℕ} {n : ℕ} → Ticks l k n → Happens tick l p n k p
  answers : {bytes m b l p k q m' b' : List ℕ} {n : ℕ} → AllBytes bytes → AllBytes p → Answers bytes l p m b n k q m' b'
      → Happens (datagram bytes m b) l p n k q
  runs : {m l p k m' : List ℕ} {budget : ℕ} {r : Ran} → AllBytes p → Runs p budget l m r k m' → Happens (run budget m) l p r.status k p

-- ---- commands that were carried out: a datagram that is answered 100 and carries such a command
abbrev pub obeys : (Command → Bool) → List ℕ → List ℕ → ℕ → Bool
obeys of bytes l n = eqb n 100 && carries of (taken_of (byte_of (registers_of l).values 66) bytes)

-- "Begun at address 0 means power-up, 131, or 129 type 1 with value 0, carried out and not refused"; "255 value 1234: as power-up":
-- an event, the image that it is handed, and the number that it answers
unfoldable pub begins : Event → List ℕ → ℕ → Bool
begins (power-up cells) l n = eqb n 100
begins (sample fields) l n = false
begins tick l n = false
begins (datagram bytes m b) l n = obeys begins_by bytes l n
begins (run budget m) l n = false

-- 129 type 1 with another value than 0, carried out
unfoldable pub runs_from_another : Event → List ℕ → ℕ → Bool
runs_from_another (power-up cells) l n = false
runs_from_another (sample fields) l n = false
runs_from_another tick l n = false
runs_from_another (datagram bytes m b) l n = obeys from_another bytes l n
runs_from_another (run budget m) l n = false

-- ---- events in a row: the image and the records before and after it
-- "Each event after that is lent the records and handed the registers as the one before left them"; no event of the row writes a
-- record, or runs the program from another named address. An image that is handed in has 137 numbers, as its type holds.
pub data Quiet : List ℕ → List ℕ → List ℕ → List ℕ → Type 0 where
  none : {l p : List ℕ} → Quiet l p l p
  also : {e : Event} {l p k q j o : List ℕ} {n : ℕ} → length l ≡ 137 → Happens e l p n k q → q ≡ p → runs_from_another e l n ≡ false
      → Quiet k q j o → Quiet l p j o

-- ---- the steps that an event makes from this image with these records, each by the state that it is made from
-- a run makes the steps that it answers, and a datagram that is answered 100 and carries 130 makes one
pub data MakesStep (l p : List ℕ) : State → Type 0 where
  in_run : {m k m' : List ℕ} {budget : ℕ} {r : Ran} → Runs p budget l m r k m' → (j : ℕ) → j < r.steps
      → MakesStep l p (walked p (pins_of (registers_of l)) j (begun (state_of (registers_of l) m))).state
  alone : {bytes m b k q m' b' : List ℕ} {n : ℕ} → Answers bytes l p m b n k q m' b' → obeys (λ c. eqb c.number 130) bytes l n ≡ true
      → MakesStep l p (state_of (registers_of l) m)
