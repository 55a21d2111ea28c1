-- The board's side of a serial line (01, "Datagrams and status").
use Rattle.std.specs.Prelude.{ℕ, List, eqb, length, get_or, Result, Ok, Err}
use Rattle.words.specs.Word.{pick}
use Rattle.checksum.specs.Checksum.{right_frame}
use Rattle.wire.specs.Frame.{command_at}
use Rattle.wire.specs.declared.Command.{Command}
use Rattle.serial.specs.declared.NotTaken.{NotTaken}
use Rattle.serial.specs.declared.NotTaken.TheVariants.{NotOurs, Damaged}

-- "length, address, 1": no reply to another length or another address; then the checksum; then the command
unfoldable pub taken_of : ℕ → List ℕ → Result Command NotTaken
taken_of ours s =
    pick (eqb (length s) 9)
    (pick (eqb (get_or s 0 0) ours) (pick (right_frame s) (Ok (command_at s 1)) (Err (Damaged (get_or s 1 0)))) (Err NotOurs))
    (Err NotOurs)

-- the status of a datagram whose command, where there is one, gets the status `own`: "none" is 0
abbrev pub taken_status : ℕ → Result Command NotTaken → ℕ
taken_status own (Err NotOurs) = 0
taken_status own (Err (Damaged n)) = 1
taken_status own (Ok c) = own
