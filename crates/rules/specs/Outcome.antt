-- What a command leaves of the registers, its status and the value of its reply; and with it the parameter store.
use Rattle.std.specs.Prelude.{ℕ, List, pos}
use Rattle.words.specs.Word.{word}
use Rattle.words.specs.declared.Word.{Word}
use Rattle.status.specs.declared.Status.{Status}
use Rattle.board.specs.declared.Registers.{Registers}

pub record Obeyed : Type 0 where
  pub registers : Registers
  pub status : Status
  pub value : Word

abbrev pub done : Status → Word → Registers → Obeyed
done s w r = record { registers = r; status = s; value = w }

-- "value 0; nothing changes"
abbrev pub refused : Status → Registers → Obeyed
refused s r = done s (word (pos 0)) r

pub record Changed : Type 0 where
  pub obeyed : Obeyed
  pub store : List ℕ

abbrev pub changed : Obeyed → List ℕ → Changed
changed o m = record { obeyed = o; store = m }
