-- What registers in a row keep: the place of each, how it is read, and what writing its place changes.
use Rattle.std.specs.Prelude.{ℕ, ◌+◌, ◌-◌, ◌≡◌, ◌<◌, List, length, ltb, get_or, set, Option, Some, None}
use Rattle.words.specs.Word.{pick}
use Rattle.board.specs.declared.Registers.{Registers}
use Rattle.reg_image.specs.Image.{Kind, number, kinds, registers_of}

-- so many places from a first on
abbrev pub place_in : ℕ → ℕ → ℕ → Option ℕ
place_in first size i = pick (ltb i size) (Some (first + i)) None

-- a value, by its place on the sheet: the axis parameters; the globals and user variables
abbrev pub value_place : ℕ → Option ℕ
value_place i = pick (ltb i 43) (Some (94 + i)) (pick (ltb i 103) (Some (34 + (i - 43))) None)

-- at a place of the row: the kind of its numbers, what is read, and what writing it changes; past the last, 0 and nothing
pub record RowLaws {V : Type 0} (place : ℕ → Option ℕ) (kind : Kind) (of : ℕ → V) (read : ℕ → Registers → V) (with : ℕ → V → Registers → Registers) : Type 0 where
  pub inside : (i p : ℕ) → place i ≡ Some p → p < 137
  pub kept : (i p : ℕ) → place i ≡ Some p → get_or kinds p number ≡ kind
  pub reads : (i p : ℕ) (l : List ℕ) → place i ≡ Some p → length l ≡ 137 → read i (registers_of l) ≡ of (get_or l p 0)
  pub writes : (i p : ℕ) (l : List ℕ) (n : ℕ) → place i ≡ Some p → length l ≡ 137
      → registers_of (set l p n) ≡ with i (of n) (registers_of l)
  pub past_read : (i : ℕ) (r : Registers) → place i ≡ None → read i r ≡ of 0
  pub past_written : (i : ℕ) (v : V) (r : Registers) → place i ≡ None → with i v r ≡ r
