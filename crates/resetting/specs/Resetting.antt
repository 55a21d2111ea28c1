-- "137 value 1234: all RW and RWE parameters, globals and user variables, lock included, to defaults in memory and cells"
use Rattle.std.specs.Prelude.{ℕ, zero, suc, List, ℤ}
use Rattle.words.specs.Word.{pick}
use Rattle.rows.specs.Row.{writes, stored}
use Rattle.rows.specs.declared.Row.{Row}
use Rattle.sheet.specs.Rows.{row_at, cell_of}
use Rattle.store.specs.Store.{put_cell}
use Rattle.values.specs.Values.{set_value}

-- the value at a place, where it is not read only
abbrev pub reset_value : List Row → ℕ → List ℤ → List ℤ
reset_value t i values = pick (writes (row_at t i).access) (set_value values i (row_at t i).standard.v) values

-- its cell, where it has one
abbrev pub reset_cell : List Row → ℕ → List ℕ → List ℕ
reset_cell t i store = pick (stored (row_at t i).access) (put_cell store (cell_of t i) (row_at t i).standard.v) store

-- those of the first n places, one after the other
unfoldable pub reset_values : List Row → ℕ → List ℤ → List ℤ
reset_values t zero values = values
reset_values t (suc n) values = reset_value t n (reset_values t n values)

unfoldable pub reset_cells : List Row → ℕ → List ℕ → List ℕ
reset_cells t zero store = store
reset_cells t (suc n) store = reset_cell t n (reset_cells t n store)
