-- The display's side by numbers.
use Rattle.std.specs.Prelude.{ℕ, List, [], ◌∷◌, eqb, ℤ, length}
use Rattle.std.proofs.lemmas.List.Edits.{sets}
use Rattle.words.specs.Word.{pick, word, of_bits}
use Rattle.words.specs.declared.Word.{Word}
use Rattle.wire.specs.Frame.{command_frame}
use Rattle.wire.specs.declared.Command.{Command}
use Rattle.display.specs.Display.{Answer, read_of}

-- ---- building
abbrev pub command : ℕ → ℕ → ℕ → ℤ → Command
command number kind motor value = record { number = number; kind = kind; motor = motor; value = word value }

-- a buffer and the number answered
pub record Bytes : Type 0 where
  pub bytes : List ℕ
  pub status : ℕ

abbrev pub bytes_left : ℕ → List ℕ → Bytes
bytes_left n s = record { bytes = s; status = n }

-- "building a command refuses a buffer other than 9 bytes with 20, writing nothing"
abbrev pub built : ℕ → Command → List ℕ → Bytes
built address c s =
    bytes_left (pick (eqb (length s) 9) 100 20) (pick (eqb (length s) 9) (command_frame address c) s)

-- ---- reading
pub record Numbers : Type 0 where
  pub numbers : List ℤ
  pub status : ℕ

abbrev pub numbers_left : ℕ → List ℤ → Numbers
numbers_left n l = record { numbers = l; status = n }

-- reply address, module address, status, command, value
abbrev pub five_of : ℕ → ℕ → ℕ → ℕ → Word → List ℤ
five_of to from status command value =
    of_bits to ∷ of_bits from ∷ of_bits status ∷ of_bits command ∷ value.v ∷ []

abbrev pub numbers_of : Answer → List ℤ
numbers_of a = five_of a.reply-address a.module-address a.status a.command (word a.value)

-- over the five places lent
abbrev pub put : List ℤ → Answer → Numbers
put l a = numbers_left a.outcome (sets l 0 (numbers_of a))

abbrev pub read : List ℕ → List ℤ → Numbers
read s l = put l (read_of s)
