-- Where a number stands in a list of rows, and what holds place by place.
use Rattle.std.specs.Prelude.{ℕ, zero, suc, ◌+◌, Bool, true, ◌&&◌, List, [], ◌∷◌, ◌++◌, eqb, length}
use Rattle.words.specs.Word.{pick}
use Rattle.rows.specs.declared.Row.{Row}
use Rattle.sheet.specs.Sheet.{axis, globals, read_only}

-- the place of the first row of that number, or how many there are
abbrev pub place_in : List Row → ℕ → ℕ
place_in [] n = 0
place_in (r ∷ rs) n = pick (eqb n r.number) 0 (place_in rs n + 1)

-- the place of an axis parameter among the working values; 43 where the sheet has none of that number
abbrev pub axis_place : ℕ → ℕ
axis_place n = place_in axis n

-- the place of a global in bank 0: 66, 73, 76, 77, then the read-only 128 and 130; 6 where there is none of that number
abbrev pub global_in : ℕ → ℕ
global_in n = place_in (globals ++ read_only) n

-- its place among the working values, behind the axis parameters (128 and 130 have no working value, and the place that they get
-- decides nothing)
abbrev pub global_place : ℕ → ℕ
global_place n = length axis + global_in n

-- what a function gives at the n numbers from i on
abbrev pub tabulate : {A : Type 0} → (ℕ → A) → ℕ → ℕ → List A
tabulate f i zero = []
tabulate f i (suc n) = f i ∷ tabulate f (i + 1) n

-- a test that holds at every number below n
abbrev pub all_below : (ℕ → Bool) → ℕ → Bool
all_below f zero = true
all_below f (suc n) = f n && all_below f n
