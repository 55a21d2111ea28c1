-- How many parameters and globals there are. Assumes nothing.
use Prim.Native.Nat.{ℕ, suc, ◌+◌, ◌≤◌}
use native.Mathlib.Omega.{arith}
use mathlib.Core.Path.{◌≡◌, refl}
use mathlib.Core.Bool.{Bool, true, false}
use mathlib.Core.List.{List, [], ◌∷◌, ◌++◌}
use lib.Dec.{eqb}
use lib.ListN.{length}
use Rattle.words.specs.Word.{pick}
use Rattle.rows.specs.declared.Row.{Row}
use Rattle.sheet.specs.Sheet.{axis, globals, read_only, rwe_rows, rw_rows, r_rows}
use Rattle.sheet.specs.Rows.{parameters}
use Rattle.sheet.specs.Places.{place_in}

pub axis_rows : length axis ≡ 43
unfolding axis rwe_rows rw_rows r_rows
axis_rows = refl

pub parameter_rows : length parameters ≡ 47
unfolding parameters axis globals rwe_rows rw_rows r_rows
parameter_rows = refl

pub global-rows : length (globals ++ read_only) ≡ 6
unfolding globals read_only
global-rows = refl

one_more : (b : Bool) (n m : ℕ) → n ≤ m → pick b 0 (n + 1) ≤ suc m
one_more true n m h = omega arith
one_more false n m h = omega (arith, h)

-- a place is at most the number of rows
pub place-low : (t : List Row) (n : ℕ) → place_in t n ≤ length t
place-low [] n = omega arith
place-low (r ∷ rs) n = one_more (eqb n r.number) (place_in rs n) (length rs) (place-low rs n)
