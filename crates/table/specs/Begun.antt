-- "Default cells, after power-up", and commands told to that board one after the other.
use Rattle.std.specs.Prelude.{ℕ, List, ℤ, replicate}
use Rattle.words.specs.Word.{word}
use Rattle.wire.specs.declared.Command.{Command}
use Rattle.values.specs.Examples.{default_cells}
use Rattle.status.specs.Status.{number_of}
use Rattle.board.specs.Registers.{powered}
use Rattle.rules.specs.Obey.{Outcome, obeyed}
use Rattle.rules.specs.Datagram.{Board, board, datagram}

-- an empty program store and a reply buffer of nine zeros
abbrev pub empty_program : List ℕ
empty_program = replicate 7168 0

abbrev pub begun : Board
begun = board (powered default_cells) empty_program default_cells (replicate 9 0)

-- the reply to a datagram
abbrev pub reply_to : List ℕ → List ℕ
reply_to bytes = (datagram bytes begun).board.reply

-- command, type, motor or bank, value
abbrev pub command : ℕ → ℕ → ℕ → ℤ → Command
command n k m v = record { number = n; kind = k; motor = m; value = word v }

-- a first command, and one more
abbrev pub first : Command → Outcome
first c = obeyed c (powered default_cells) empty_program default_cells

abbrev pub more : Command → Outcome → Outcome
more c o = obeyed c o.registers o.program o.store

abbrev pub status_of : Outcome → ℕ
status_of o = number_of o.status
