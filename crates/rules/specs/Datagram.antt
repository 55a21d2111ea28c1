-- "Order: 20, 23, length, address, 1, ..": the refusals before a command, and the reply. "no reply" leaves the reply buffer too.
use Rattle.std.specs.Prelude.{ℕ, Bool, ◌&&◌, List, eqb, pos, length, Result, Ok, Err}
use Rattle.store.specs.Store.{is_program_store, is_parameter_store}
use Rattle.words.specs.Word.{pick, word}
use Rattle.wire.specs.declared.Command.{Command}
use Rattle.status.specs.Status.{number_of}
use Rattle.status.specs.declared.Status.TheVariants.{Checksum}
use Rattle.serial.specs.Serial.{taken_of}
use Rattle.serial.specs.declared.NotTaken.{NotTaken}
use Rattle.serial.specs.declared.NotTaken.TheVariants.{NotOurs, Damaged}
use Rattle.board.specs.Range.{registers_in_range}
use Rattle.board.specs.declared.Registers.{Registers}
use Rattle.rules.specs.Obey.{Outcome, obeyed}
use Rattle.replying.specs.Reply.{byte_of, addresses, replied}

-- registers and lent memory
pub record Board : Type 0 where
  pub registers : Registers
  pub program : List ℕ
  pub store : List ℕ
  pub reply : List ℕ

abbrev pub board : Registers → List ℕ → List ℕ → List ℕ → Board
board r p m b = record { registers = r; program = p; store = m; reply = b }

-- what a datagram leaves, and the number answered: the reply's status, or 0 where there is none by length or address
pub record After : Type 0 where
  pub board : Board
  pub status : ℕ

-- nothing changes
abbrev pub unchanged : ℕ → Board → After
unchanged n x = record { board = x; status = n }

-- "Both addresses are those before the command."
abbrev pub after_obeying : Outcome → Command → Board → After
after_obeying o c x =
    record {
      board =
          board o.registers o.program o.store
          (replied x.reply (addresses x.registers.values) o.status c.number o.value);
      status = number_of o.status;
    }

unfoldable pub obeyed_by : Command → Board → After
obeyed_by c x = after_obeying (obeyed c x.registers x.program x.store) c x

-- no reply; "1: checksum wrong: value 0; nothing changes", with the command as received; or the command obeyed
unfoldable pub received : Result Command NotTaken → Board → After
received (Err NotOurs) x = unchanged 0 x
received (Err (Damaged n)) x =
    record {
      board =
          board x.registers x.program x.store
          (replied x.reply (addresses x.registers.values) Checksum n (word (pos 0)));
      status = number_of Checksum;
    }
received (Ok c) x = obeyed_by c x

-- "a program store of 7,168 bytes .., a parameter store of 364 bytes .., a reply buffer of 9"
abbrev pub lent : List ℕ → List ℕ → List ℕ → Bool
lent p m b = is_program_store p && is_parameter_store m && eqb (length b) 9

unfoldable pub datagram : List ℕ → Board → After
datagram bytes x =
    pick (lent x.program x.store x.reply)
    (pick (registers_in_range x.registers) (received (taken_of (byte_of x.registers.values 66) bytes) x) (unchanged 23 x))
    (unchanged 20 x)
