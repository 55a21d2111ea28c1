-- Setting a working value.
use Rattle.std.specs.Prelude.{ℕ, ◌+◌, Bool, ◌&&◌, ◌||◌, List, eqb, leb, ltb, ℤ, pos, length}
use Rattle.words.specs.Word.{pick, word}
use Rattle.words.specs.declared.Word.{Word}
use Rattle.order.specs.Order.{same_w}
use Rattle.rows.specs.Row.{allowed}
use Rattle.sheet.specs.Sheet.{axis}
use Rattle.sheet.specs.Rows.{parameters, rows, row_at}
use Rattle.sheet.specs.Places.{global_place}
use Rattle.values.specs.Values.{value_at}

-- bank 0: the globals; bank 2: "0 to 55", behind all parameters
unfoldable pub bank_place : ℕ → ℕ → ℕ
bank_place bank n = pick (eqb bank 2) (length parameters + n) (global_place n)

-- "73 lock (.. set 1234 locks, 4321 unlocks ..)"
abbrev pub is_key : ℤ → Bool
is_key z = same_w z (pos 1234) || same_w z (pos 4321)

-- the lock by a key, any other value as its row allows
unfoldable pub settable : ℕ → ℤ → Bool
settable place z = pick (eqb place (bank_place 0 73)) (is_key z) (allowed (row_at rows place) z)

-- "cell and reading 0..1"
unfoldable pub kept : ℕ → Word → Word
kept place w =
    pick (eqb place (bank_place 0 73)) (pick (same_w w.v (pos 1234)) (word (pos 1)) (word (pos 0))) w

-- "66, 76, 77, all RW and written to their cells at once; 73 .. written at once even when locked"
unfoldable pub is_global : ℕ → Bool
is_global place = leb (length axis) place && ltb place (length parameters)

-- "While locked, 5 goes to .. setting 66, 76 or 77"
unfoldable pub guarded : ℕ → Bool
guarded place = eqb place (bank_place 0 66) || eqb place (bank_place 0 76) || eqb place (bank_place 0 77)

-- the register, not the cell
unfoldable pub locked : List ℤ → Bool
locked values = same_w (value_at values (bank_place 0 73)).v (pos 1)
