-- The parameters looked at one after the other. Assumes nothing.
use Prim.Native.Nat.{ℕ, ◌<◌}
use mathlib.Core.Path.{◌≡◌}
use mathlib.Core.List.{List}
use lib.IntN.{ℤ}
use lib.ListN.{replicate}
use Rattle.sheet.specs.Rows.{parameters, rows, row_at}
use Rattle.sheet.specs.Sheet.{axis, globals, rwe_rows, rw_rows, r_rows, user_row}
use Rattle.sheet.specs.Places.{all_below}
use Rattle.sheet.proofs.Below.{below-same}
use Rattle.sheet.proofs.Lines.{parameter-row}
use Rattle.values.specs.Values.{allowed_at, values_in_range}

pub row-of-parameter : (i : ℕ) → i < 47 → row_at rows i ≡ row_at parameters i
unfolding rows parameters axis globals rwe_rows rw_rows r_rows
row-of-parameter i h = parameter-row parameters (replicate 56 user_row) i h

-- the rows of the parameters are the first of all rows
pub parameters-allowed : (vs : List ℤ) → all_below (allowed_at rows vs) 47 ≡ values_in_range parameters vs
unfolding values_in_range parameters axis globals rwe_rows rw_rows r_rows
parameters-allowed vs = below-same (allowed_at rows vs) (allowed_at parameters vs) 47 (λ i h. rw (row-of-parameter i h))
