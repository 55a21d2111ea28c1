-- The places that the code names, and how low places and cells are. Assumes nothing.
use Prim.Native.Nat.{ℕ, zero, suc, ◌≤◌}
use native.Mathlib.Omega.{arith}
use mathlib.Core.Path.{◌≡◌, refl}
use mathlib.Core.Bool.{Bool, true, false}
use mathlib.Core.List.{List, [], ◌∷◌}
use lib.ListN.{length, take}
use Rattle.words.specs.Word.{pick}
use Rattle.rows.specs.Row.{stored}
use Rattle.rows.specs.declared.Row.{Row}
use Rattle.sheet.specs.Sheet.{axis, rwe_rows, rw_rows, r_rows}
use Rattle.sheet.specs.Rows.{cells, cell_of}
use Rattle.sheet.specs.Places.{axis_place}

pub limit-place : axis_place 43 ≡ 4
unfolding axis rwe_rows rw_rows r_rows
limit-place = refl

pub position-place : axis_place 50 ≡ 7
unfolding axis rwe_rows rw_rows r_rows
position-place = refl

pub actual-place : axis_place 52 ≡ 9
unfolding axis rwe_rows rw_rows r_rows
actual-place = refl

-- a cell's number is at most the place
one_more : (b : Bool) (x : Row) (l : List Row) (n : ℕ) → length l ≤ n → length (pick b (x ∷ l) l) ≤ suc n
one_more true x l n h = omega arith
one_more false x l n h = omega (arith, h)

pub cell-low : (t : List Row) (i : ℕ) → cell_of t i ≤ i
cell-low [] zero = omega arith
cell-low [] (suc i) = omega arith
cell-low (x ∷ t) zero = omega arith
cell-low (x ∷ t) (suc i) = one_more (stored x.access) x (cells (take i t)) i (cell-low t i)
