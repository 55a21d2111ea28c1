-- The working values. Each rule takes the rows as an argument.
use Rattle.std.specs.Prelude.{ℕ, ◌+◌, Bool, ◌&&◌, List, ltb, ℤ, pos, length, get_or, set}
use Rattle.words.specs.Word.{pick, word}
use Rattle.words.specs.declared.Word.{Word}
use Rattle.rows.specs.Row.{allowed, taken, stored}
use Rattle.sheet.specs.Rows.{row_at, cell_of}
use Rattle.sheet.specs.Places.{tabulate, all_below}
use Rattle.rows.specs.declared.Row.{Row}
use Rattle.store.specs.Store.{cell_at}

-- the value at a place; 0 past the last of the 103
abbrev pub value_at : List ℤ → ℕ → Word
value_at vs i = pick (ltb i 103) (word (get_or vs i (pos 0))) (word (pos 0))

-- with the value at a place set; past the last there is none
abbrev pub set_value : List ℤ → ℕ → ℤ → List ℤ
set_value vs i z = pick (ltb i 103) (set vs i z) vs

-- the value at a place is allowed by its row
abbrev pub allowed_at : List Row → List ℤ → ℕ → Bool
allowed_at t vs i = allowed (row_at t i) (get_or vs i (pos 0))

-- a test that holds at the eight numbers from i on
abbrev pub eight : (ℕ → Bool) → ℕ → Bool
eight f i = f (i + 7) && f (i + 6) && f (i + 5) && f (i + 4) && f (i + 3) && f (i + 2) && f (i + 1) && f i

-- each parameter is allowed by its row
unfoldable pub values_in_range : List Row → List ℤ → Bool
values_in_range t vs = all_below (allowed_at t vs) (length t)

-- "Power-up takes each cell's value if it is in range, else the default. Non-stored parameters take defaults"
unfoldable pub powered_at : List Row → List ℕ → ℕ → Word
powered_at t s i =
    pick (stored (row_at t i).access) (taken (row_at t i) (cell_at s (cell_of t i))) (row_at t i).standard

unfoldable pub powered_values : List Row → List ℕ → List ℤ
powered_values t s = tabulate (λ i. (powered_at t s i).v) 0 (length t)
