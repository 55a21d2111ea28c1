-- The code's table has just the lines of document 01's rows, each with its cell. Assumes nothing.
use Prim.Native.Nat.{ℕ, zero, suc, ◌+◌, ◌-◌, ◌≤◌, ◌<◌}
use native.Mathlib.Nat.{le_of_suc-le-suc, not-suc-le-zero}
use native.Mathlib.Omega.{arith}
use mathlib.Core.Path.{◌≡◌, refl, ap, ◌∙◌}
use mathlib.Core.Bool.{Bool, true, false}
use mathlib.Core.List.{List, [], ◌∷◌, ◌++◌}
use lib.ListN.{length, get_or, drop, take, get_or-append}
use lib.Seq.{get_or-drop}
use Rattle.words.specs.Word.{pick}
use Rattle.sheet.specs.Line.{line_of, row_of, lines_from, no_line}
use Rattle.rows.specs.Row.{stored}
use Rattle.sheet.specs.Rows.{row_at, cells, cell_of}
use Rattle.sheet.specs.Sheet.{user_row}
use Rattle.rows.specs.declared.Row.{Row}

same_row : (c : ℕ) (x : Row) → row_of (line_of c x) ≡ x
same_row c x = refl

-- a line's row stands at its place
pub line_row : (c : ℕ) (t after : List Row) (i : ℕ) → i < length t → row_of (get_or (lines_from c t) i no_line) ≡ row_at (t ++ after) i
line_row c [] after i h = absurd (not-suc-le-zero h)
line_row c (r ∷ rs) after zero h = same_row c r
line_row c (r ∷ rs) after (suc i) h = line_row (pick (stored r.access) (c + 1) c) rs after i (le_of_suc-le-suc h)

-- a parameter's row is the one of that place among all the values'
pub parameter-row : (t after : List Row) (i : ℕ) → i < length t → row_at (t ++ after) i ≡ row_at t i
parameter-row t after i h = get_or-append t after user_row i h

-- counted from n on
pub from : (t : List Row) (n i : ℕ) → n ≤ i → row_at (drop n t) (i - n) ≡ row_at t i
from t n i h = let e : n + (i - n) ≡ i = omega arith in get_or-drop n t (i - n) user_row ∙ ap (row_at t) e

cells-step : (b : Bool) (c : ℕ) (r : Row) (rs : List Row) → pick b (c + 1) c + length rs ≡ c + length (pick b (r ∷ rs) rs)
cells-step true c r rs = omega arith
cells-step false c r rs = refl

-- a line's cell is the one of its place
pub line-cell : (c : ℕ) (t after : List Row) (i : ℕ) → i < length t → (get_or (lines_from c t) i no_line).6 ≡ c + cell_of (t ++ after) i
line-cell c [] after i h = absurd (not-suc-le-zero h)
line-cell c (r ∷ rs) after zero h = omega arith
line-cell c (r ∷ rs) after (suc i) h =
    line-cell (pick (stored r.access) (c + 1) c) rs after i (le_of_suc-le-suc h)
    ∙ cells-step (stored r.access) c r (cells (take i (rs ++ after)))
