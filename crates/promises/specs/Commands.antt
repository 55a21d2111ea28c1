-- What is relied on of commands, datagrams and runs.
use Rattle.std.specs.Prelude.{ℕ, ◌≡◌, Bool, true, false, ◌&&◌, List, leb, length, Err}
use Rattle.std.specs.Int.{w32}
use Rattle.std.proofs.Common.{SFits}
use Rattle.store.specs.Store.{is_program_store, is_parameter_store}
use Rattle.words.specs.Laws.{AllBytes}
use Rattle.wire.specs.declared.Command.{Command}
use Rattle.status.specs.declared.Status.{Status}
use Rattle.status.specs.declared.Status.TheVariants.{Done, Stored, Checksum, Unknown, Kind, Value, Locked, Unavailable}
use Rattle.serial.specs.Serial.{taken_of}
use Rattle.serial.specs.declared.NotTaken.TheVariants.{NotOurs}
use Rattle.board.specs.Range.{registers_in_range}
use Rattle.rules.specs.Steps.{step_once}
use Rattle.board.specs.declared.Registers.{Registers}
use Rattle.rules.specs.Obey.{outcome, obeyed}
use Rattle.rules.specs.Outcome.{done, refused}
use Rattle.rules.specs.RunEvent as runs
use Rattle.rules.specs.Datagram.{Board, board, lent, datagram}
use Rattle.replying.specs.Reply.{byte_of}

-- a command was carried out: done, or put in program memory
abbrev pub carried_out : Status → Bool
carried_out Done = true
carried_out Stored = true
carried_out Checksum = false
carried_out Unknown = false
carried_out Kind = false
carried_out Value = false
carried_out Locked = false
carried_out Unavailable = false

-- registers in range, with as many values as there are
pub record InRange (r : Registers) : Type 0 where
  pub all : registers_in_range r ≡ true
  pub size : length r.values ≡ 103

pub record Commands : Type 0 where
  -- a command that is not carried out, in whatever mode, changes no register and no byte of either store, and answers 0
  pub command_refused : (c : Command) (r : Registers) (p m : List ℕ) → carried_out (obeyed c r p m).status ≡ false
      → obeyed c r p m ≡ outcome (refused (obeyed c r p m).status r) p m
  -- 130 does what a run's step does, and answers 100 and the value sent whatever the step's own status is
  pub single_step : (c : Command) (r : Registers) (p m : List ℕ) → c.number ≡ 130 → r.core.running ≡ false → r.download.on ≡ false
      → obeyed c r p m ≡ outcome (done Done c.value (step_once p r m).registers) p (step_once p r m).store
  -- a datagram of another length or to another address changes nothing, the reply buffer included
  pub not_ours : (bytes : List ℕ) (x : Board) → taken_of (byte_of x.registers.values 66) bytes ≡ Err NotOurs
      → (datagram bytes x).board ≡ x
  -- nor does one for which lent memory has another length or the registers are out of range, answered 20 and 23
  pub datagram_shut : (bytes : List ℕ) (x : Board) → lent x.program x.store x.reply && registers_in_range x.registers ≡ false
      → (datagram bytes x).board ≡ x
  -- a datagram that is answered anything but 100 and 101 changes no register and no byte of either store
  pub datagram_refused : (bytes : List ℕ) (x : Board) → ((datagram bytes x).status ≡ 100 → ⊥) → ((datagram bytes x).status ≡ 101 → ⊥)
      → (datagram bytes x).board ≡ board x.registers x.program x.store (datagram bytes x).board.reply
  -- a run that is refused, with 20, 23 or 22, changes nothing and makes no step
  pub run_refused : (program : List ℕ) (budget : ℕ) (r : Registers) (m : List ℕ)
      → is_program_store program && is_parameter_store m && (registers_in_range r && leb budget 1000) ≡ false
      → ((runs.run program budget r m).registers ≡ r) × ((runs.run program budget r m).store ≡ m) × ((runs.run program budget r m).steps ≡ 0)
  -- registers in range stay so under every command, datagram and run
  pub command_in_range : (c : Command) (r : Registers) (p m : List ℕ) → SFits w32 c.value.v → AllBytes p → InRange r
      → InRange (obeyed c r p m).registers
  pub datagram_in_range : (bytes : List ℕ) (x : Board) → AllBytes bytes → AllBytes x.program → InRange x.registers
      → InRange (datagram bytes x).board.registers
  pub run_in_range : (program : List ℕ) (budget : ℕ) (r : Registers) (m : List ℕ) → AllBytes program → InRange r
      → InRange (runs.run program budget r m).registers
