-- What a user of 137 relies on.
use Rattle.std.specs.Prelude.{ℕ, ◌<◌, ◌≡◌, true, false, List, ℤ, length}
use Rattle.rows.specs.Row.{writes, stored}
use Rattle.sheet.specs.Rows.{rows, parameters, row_at, cell_of}
use Rattle.store.specs.Store.{parameter_length, cell_at}
use Rattle.values.specs.Values.{value_at, values_in_range}
use Rattle.resetting.specs.Resetting.{reset_values, reset_cells}

pub record Laws : Type 0 where
  -- every value that may be set is its default, and every other stays
  pub values_set : (vs : List ℤ) (i : ℕ) → length vs ≡ 103 → i < 103 → writes (row_at rows i).access ≡ true
      → value_at (reset_values rows 103 vs) i ≡ (row_at rows i).standard
  pub values_kept : (vs : List ℤ) (i : ℕ) → writes (row_at rows i).access ≡ false
      → value_at (reset_values rows 103 vs) i ≡ value_at vs i
  -- values in range stay so, and as many as they were
  pub values-in-range : (vs : List ℤ) → length vs ≡ 103 → values_in_range parameters vs ≡ true
      → values_in_range parameters (reset_values rows 103 vs) ≡ true
  pub values_length : (vs : List ℤ) → length (reset_values rows 103 vs) ≡ length vs
  -- in a store of 91 cells every value's cell has the default; the length of a store stays
  pub cells_set : (s : List ℕ) (i : ℕ) → length s ≡ parameter_length → i < 103 → stored (row_at rows i).access ≡ true
      → cell_at (reset_cells rows 103 s) (cell_of rows i) ≡ (row_at rows i).standard
  pub cells_length : (s : List ℕ) → length (reset_cells rows 103 s) ≡ length s
