-- The rows of the working values, and of the cells: "Cells in order: the 31 RWE axis parameters by rising number; globals
-- 66, 73, 76, 77; user variables 0 to 55."
use Rattle.std.specs.Prelude.{ℕ, List, [], ◌∷◌, ◌++◌, length, get_or, take, replicate}
use Rattle.words.specs.Word.{pick}
use Rattle.rows.specs.Row.{stored}
use Rattle.sheet.specs.Sheet.{axis, globals, user_row}
use Rattle.rows.specs.declared.Row.{Row}

-- what may be out of range: axis parameters and globals
unfoldable pub parameters : List Row
unfolding axis globals
parameters = axis ++ globals

-- the working values: these, and the user variables
unfoldable pub rows : List Row
unfolding parameters
rows = parameters ++ replicate 56 user_row

abbrev pub row_at : List Row → ℕ → Row
row_at t i = get_or t i user_row

-- those that have a cell
abbrev pub cells : List Row → List Row
cells [] = []
cells (r ∷ rs) = pick (stored r.access) (r ∷ cells rs) (cells rs)

-- the cell of the value at a place: as many as have one before it
abbrev pub cell_of : List Row → ℕ → ℕ
cell_of t i = length (cells (take i t))
