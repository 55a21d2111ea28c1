-- The rules of the sheet, over all its rows.
use Rattle.std.specs.Prelude.{ℕ, ◌<◌, ◌≡◌, Bool, true, false, ◌||◌, List, [], ◌∷◌, ◌++◌, map, T, eqb, ℤ, pos, negsuc, length, get_or, replicate}
use Rattle.std.specs.Int.{w32}
use Rattle.std.proofs.Common.{SFits}
use Rattle.words.specs.declared.Word.{Word}
use Rattle.order.specs.Order.{in_range}
use Rattle.rows.specs.Row.{any_value, allowed, taken, stored}
use Rattle.sheet.specs.Sheet.{axis, globals, read_only, rwe_rows, user_row}
use Rattle.sheet.specs.Rows.{parameters, rows, row_at, cells, cell_of}
use Rattle.sheet.specs.Places.{axis_place}
use Rattle.rows.specs.declared.Row.{Row}

-- the axis parameter of a number
abbrev pub parameter : ℕ → Row
parameter n = row_at axis (axis_place n)

-- a value of a set
abbrev pub one_of : List ℕ → ℤ → Bool
one_of xs (negsuc n) = false
one_of [] (pos n) = false
one_of (x ∷ xs) (pos n) = eqb n x || one_of xs (pos n)

-- the numbers of rows rise
abbrev pub Rising : List Row → Type 0
Rising t = (i j : ℕ) → i < j → j < length t → (row_at t i).number < (row_at t j).number

pub record Laws : Type 0 where
  -- "the 31 RWE axis parameters", 43 axis parameters in all, and 103 working values
  pub rwe-rows : length rwe_rows ≡ 31
  pub axis_rows : length axis ≡ 43
  pub parameter_rows : length parameters ≡ 47
  pub all_rows : length rows ≡ 103
  pub rising : Rising axis
  pub globals_rising : Rising (globals ++ read_only)
  -- "91 cells", in document 01's order
  pub cell_rows : length (cells rows) ≡ 91
  pub cell_numbers :
      map (λ (x : Row). x.number) (cells rows)
      ≡ 10 ∷ 11 ∷ 14 ∷ 15 ∷ 43 ∷ 44 ∷ 47 ∷ 53 ∷ 54 ∷ 56 ∷ 70 ∷ 71 ∷ 72 ∷ 73 ∷ 74 ∷ 90 ∷ 91 ∷ 92 ∷ 93 ∷ 100 ∷ 101 ∷ 102 ∷ 104
      ∷ 105 ∷ 106 ∷ 107 ∷ 108 ∷ 110 ∷ 140 ∷ 141 ∷ 142 ∷ 66 ∷ 73 ∷ 76 ∷ 77 ∷ replicate 56 0
  -- a value's cell has its row, and no two values have one cell
  pub own_cell : (i : ℕ) → T (stored (row_at rows i).access) → i < 103 → get_or (cells rows) (cell_of rows i) user_row ≡ row_at rows i
  pub cells_rise : (i j : ℕ) → T (stored (row_at rows i).access) → i < j → i < 103 → cell_of rows i < cell_of rows j
  -- every default is allowed, so what is taken from a cell is allowed, whatever the cell holds
  pub defaults : (i : ℕ) → T (allowed (row_at rows i) (row_at rows i).standard.v)
  pub takes : (i : ℕ) (w : Word) → T (allowed (row_at rows i) (taken (row_at rows i) w).v)
  -- "Bank 2: 0 to 55, all values"
  pub user_variable : (z : ℤ) → SFits w32 z → allowed user_row z ≡ true
  -- "low..high": a row with the mask of all ones allows just these values
  pub whole_range : (r : Row) (z : ℤ) → r.mask ≡ any_value → allowed r z ≡ in_range r.low.v r.high.v z
  -- "14: {0,1,3}", "102: {0,2}", of all whole numbers
  pub set_14 : (z : ℤ) → allowed (parameter 14) z ≡ one_of (0 ∷ 1 ∷ 3 ∷ []) z
  pub set_102 : (z : ℤ) → allowed (parameter 102) z ≡ one_of (0 ∷ 2 ∷ []) z
  -- "000 gives 102 a default of 1 outside its own range; ours is 0"
  pub not_1 : allowed (parameter 102) (pos 1) ≡ false
  pub ours : (parameter 102).standard.v ≡ pos 0
