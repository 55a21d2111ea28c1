-- One place, and one place more. Assumes nothing.
use Prim.Native.Nat.{ℕ, zero, suc, ◌+◌}
use native.Mathlib.Numerals.{add-one}
use mathlib.Core.Path.{◌≡◌, refl, ap, ◌∙◌}
use mathlib.Core.Bool.{Bool, true, false}
use mathlib.Core.List.{List}
use lib.IntN.{ℤ}
use lib.ListN.{length}
use Rattle.words.specs.Word.{pick}
use Rattle.rows.specs.Row.{stored}
use Rattle.rows.specs.declared.Row.{Row}
use Rattle.sheet.specs.Rows.{row_at, cell_of}
use Rattle.store.specs.Store.{put_cell}
use Rattle.store.proofs.Places.{cell_length}
use Rattle.resetting.specs.Resetting.{reset_value, reset_cell, reset_values, reset_cells}

module _ (t : List Row) where
  pub no-values : (vs : List ℤ) → vs ≡ reset_values t 0 vs
  unfolding reset_values
  no-values vs = refl

  pub no_cells : (s : List ℕ) → s ≡ reset_cells t 0 s
  unfolding reset_cells
  no_cells s = refl

  more-values : (n : ℕ) (vs : List ℤ) → reset_value t n (reset_values t n vs) ≡ reset_values t (n + 1) vs
  unfolding reset_values
  more-values n vs = rw add-one refl

  more-cells : (n : ℕ) (s : List ℕ) → reset_cell t n (reset_cells t n s) ≡ reset_cells t (n + 1) s
  unfolding reset_cells
  more-cells n s = rw add-one refl

  pub one_value : {us ws : List ℤ} (n : ℕ) (vs : List ℤ) → ws ≡ reset_value t n us → us ≡ reset_values t n vs → ws ≡ reset_values t (n + 1) vs
  one_value n vs e h = e ∙ ap (reset_value t n) h ∙ more-values n vs

  pub one_cell : {m r : List ℕ} (n : ℕ) (s : List ℕ) → r ≡ reset_cell t n m → m ≡ reset_cells t n s → r ≡ reset_cells t (n + 1) s
  one_cell n s e h = e ∙ ap (reset_cell t n) h ∙ more-cells n s

  cell-step : (n : ℕ) (s : List ℕ) → length (reset_cell t n s) ≡ length s
  cell-step n s = by (stored (row_at t n).access)
    where
      by : (b : Bool) → length (pick b (put_cell s (cell_of t n) (row_at t n).standard.v) s) ≡ length s
      by true = cell_length s (cell_of t n) (row_at t n).standard.v
      by false = refl

  pub cells_length : (n : ℕ) (s : List ℕ) → length (reset_cells t n s) ≡ length s
  unfolding reset_cells
  cells_length zero s = refl
  cells_length (suc n) s = cell-step n (reset_cells t n s) ∙ cells_length n s
