-- Program stores of 1,024 records: those listed from address 0 on, and zeros behind them.
use Rattle.std.specs.Prelude.{ℕ, ◌*◌, ◌-◌, List, [], ◌∷◌, ◌++◌, pos, length, replicate}
use Rattle.wire.specs.declared.Command.{Command}
use Rattle.store.specs.Store.{record_bytes}
use Rattle.table.specs.Begun.{command}

abbrev pub bytes_of : List Command → List ℕ
bytes_of [] = []
bytes_of (c ∷ cs) = record_bytes c ++ bytes_of cs

abbrev pub program : List Command → List ℕ
program cs = bytes_of cs ++ replicate (7168 - 7 * length cs) 0

-- "STOP at 0"
abbrev pub stopping : List ℕ
stopping = program (command 28 0 0 (pos 0) ∷ [])

-- "CSUB 0, STOP"
abbrev pub calling_itself : List ℕ
calling_itself = program (command 23 0 0 (pos 0) ∷ command 28 0 0 (pos 0) ∷ [])

-- "All zero"
abbrev pub all_zero : List ℕ
all_zero = program []
