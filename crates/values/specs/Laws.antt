-- What a user of the working values relies on.
use Rattle.std.specs.Prelude.{ℕ, ◌<◌, ◌≡◌, true, false, List, ℤ, length}
use Rattle.words.specs.Word.{word}
use Rattle.rows.specs.Row.{allowed, stored}
use Rattle.sheet.specs.Rows.{rows, parameters, row_at, cell_of}
use Rattle.store.specs.Store.{cell_at}
use Rattle.values.specs.Values.{value_at, set_value, values_in_range, powered_values}

pub record Laws : Type 0 where
  -- a value that is set is read, and every other stays
  pub set_read : (vs : List ℤ) (i : ℕ) (z : ℤ) → length vs ≡ 103 → i < 103 → value_at (set_value vs i z) i ≡ word z
  pub set_other : (vs : List ℤ) (i j : ℕ) (z : ℤ) → (j ≡ i → ⊥) → value_at (set_value vs i z) j ≡ value_at vs j
  pub set_length : (vs : List ℤ) (i : ℕ) (z : ℤ) → length (set_value vs i z) ≡ length vs
  -- values in range stay so when one is set to what its row allows
  pub set_in_range : (vs : List ℤ) (i : ℕ) (z : ℤ) → length vs ≡ 103 → values_in_range parameters vs ≡ true → allowed (row_at rows i) z ≡ true
      → values_in_range parameters (set_value vs i z) ≡ true
  -- after power-up a value that has a cell is the cell's if that is in range, else the default; one that has none is the
  -- default; and all are in range, whatever the store holds
  pub powered_length : (s : List ℕ) → length (powered_values rows s) ≡ 103
  pub powered_good : (s : List ℕ) (i : ℕ) → i < 103 → stored (row_at rows i).access ≡ true
      → allowed (row_at rows i) (cell_at s (cell_of rows i)).v ≡ true → value_at (powered_values rows s) i ≡ cell_at s (cell_of rows i)
  pub powered_bad : (s : List ℕ) (i : ℕ) → i < 103 → stored (row_at rows i).access ≡ true
      → allowed (row_at rows i) (cell_at s (cell_of rows i)).v ≡ false → value_at (powered_values rows s) i ≡ (row_at rows i).standard
  pub powered_unstored : (s : List ℕ) (i : ℕ) → i < 103 → stored (row_at rows i).access ≡ false
      → value_at (powered_values rows s) i ≡ (row_at rows i).standard
  pub powered_in_range : (s : List ℕ) → values_in_range parameters (powered_values rows s) ≡ true
