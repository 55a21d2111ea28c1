-- Cells and records in lent memory: "a program store of 7,168 bytes (1,024 records of 7: command, type, motor, value, most
-- significant byte first), a parameter store of 364 bytes (91 cells of 4, big-endian two's complement)". Memory of any length
-- is taken: a place that does not lie within it reads as zero and is not written.
use Rattle.std.specs.Prelude.{ℕ, ◌+◌, ◌*◌, List, [], ◌∷◌, Bool, eqb, leb, ℤ, pos, length}
use Rattle.std.proofs.lemmas.List.Edits.{sets}
use Rattle.words.specs.Word.{pick, word}
use Rattle.words.specs.Bytes.{four_of, word_at}
use Rattle.words.specs.declared.Word.{Word}
use Rattle.words.specs.declared.Four.{Four}
use Rattle.wire.specs.Frame.{seven, command_at}
use Rattle.wire.specs.declared.Command.{Command}

-- "a program store of 7,168 bytes", "a parameter store of 364 bytes"
abbrev pub program_length : ℕ
program_length = 7168

abbrev pub parameter_length : ℕ
parameter_length = 364

abbrev pub is_program_store : List ℕ → Bool
is_program_store p = eqb (length p) program_length

abbrev pub is_parameter_store : List ℕ → Bool
is_parameter_store s = eqb (length s) parameter_length

-- with bytes written from a place on, first byte first; with none written where they do not all fit
unfoldable pub written : List ℕ → ℕ → List ℕ → List ℕ
written s at bytes = pick (leb (at + length bytes) (length s)) (sets s at bytes) s

-- ---- cells
abbrev pub four_bytes : Four → List ℕ
four_bytes f = f.b3 ∷ f.b2 ∷ f.b1 ∷ f.b0 ∷ []

abbrev pub cell_bytes : ℤ → List ℕ
cell_bytes z = four_bytes (four_of z)

-- the word in a cell
unfoldable pub cell_at : List ℕ → ℕ → Word
cell_at s c = pick (leb (c * 4 + 4) (length s)) (word (word_at s (c * 4))) (word (pos 0))

-- with a word in a cell
unfoldable pub put_cell : List ℕ → ℕ → ℤ → List ℕ
put_cell s c z = written s (c * 4) (cell_bytes z)

-- ---- records
abbrev pub record_bytes : Command → List ℕ
record_bytes r = seven r.number r.kind r.motor (four_of r.value.v)

abbrev pub zero_record : Command
zero_record = record { number = 0; kind = 0; motor = 0; value = word (pos 0) }

-- the record at an address
unfoldable pub record_at : List ℕ → ℕ → Command
record_at p a = pick (leb (a * 7 + 7) (length p)) (command_at p (a * 7)) zero_record

-- with a record at an address
unfoldable pub put_record : List ℕ → ℕ → Command → List ℕ
put_record p a r = written p (a * 7) (record_bytes r)
