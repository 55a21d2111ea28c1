-- The laws of 137, place by place. Assumes nothing.
use Prim.Native.Nat.{ℕ, zero, suc, ◌+◌, ◌*◌, ◌≤◌, ◌<◌}
use native.Mathlib.Nat.{eq-or-lt_of_le}
use native.Mathlib.Omega.{arith}
use mathlib.Core.Logic.{⊎_elim}
use mathlib.Core.Path.{◌≡◌, refl, subst, ◌∙◌}
use mathlib.Core.Bool.{Bool, true, false, ◌&&◌}
use mathlib.Core.List.{List, [], ◌∷◌}
use borrow.Author.Tests.{eqb-true, eqb-false}
use lib.Dec.{T, eqb, ltb, ltb→lt}
use lib.IntN.{ℤ, pos, negsuc}
use lib.ListN.{length}
use mir.Syntax.{w32}
use mir.Val.{SFits}
use Rattle.words.specs.Word.{pick}
use Rattle.words.proofs.Bools.{is_true, is_T, and_left, and_right}
use Rattle.rows.specs.Row.{allowed, writes, stored}
use Rattle.rows.specs.declared.Row.{Row}
use Rattle.sheet.specs.Rows.{rows, parameters, row_at, cell_of}
use Rattle.sheet.specs.Sheet.{axis, globals, rwe_rows, rw_rows, r_rows}
use Rattle.sheet.proofs.Rules as sheet
use Rattle.sheet.proofs.Cells.{past-cell}
use Rattle.store.specs.Store.{cell_at, put_cell}
use Rattle.store.proofs.Places.{cell_read, cell_other}
use Rattle.values.specs.Values.{value_at, set_value, values_in_range}
use Rattle.values.proofs.Rules.{set_length, set_read, set_other, set_in_range}
use Rattle.resetting.specs.Resetting.{reset_value, reset_cell, reset_values, reset_cells}
use Rattle.resetting.specs.Laws.{Laws}
use Rattle.resetting.proofs.Ones.{cells_length}

-- ---- values
-- one place: what holds of the values with its default set and of the values holds after it
by-writes : (n : ℕ) (vs : List ℤ) (P : List ℤ → Type 0) → P (set_value vs n (row_at rows n).standard.v) → P vs → P (reset_value rows n vs)
by-writes n vs P h g = by (writes (row_at rows n).access)
  where
    by : (b : Bool) → P (pick b (set_value vs n (row_at rows n).standard.v) vs)
    by true = h
    by false = g

one-length : (n : ℕ) (vs : List ℤ) → length (reset_value rows n vs) ≡ length vs
one-length n vs = by-writes n vs (λ us. length us ≡ length vs) (set_length vs n (row_at rows n).standard.v) refl

one-other : (n : ℕ) (vs : List ℤ) (i : ℕ) → (i ≡ n → ⊥) → value_at (reset_value rows n vs) i ≡ value_at vs i
one-other n vs i h =
    by-writes n vs (λ us. value_at us i ≡ value_at vs i) (set_other vs n (row_at rows n).standard.v i h) refl

module _ (vs : List ℤ) where
  values_length : (n : ℕ) → length (reset_values rows n vs) ≡ length vs
  unfolding reset_values
  values_length zero = refl
  values_length (suc n) = one-length n (reset_values rows n vs) ∙ values_length n

  values-in-range : (n : ℕ) → length vs ≡ 103 → values_in_range parameters vs ≡ true → values_in_range parameters (reset_values rows n vs) ≡ true
  unfolding reset_values
  values-in-range zero l h = h
  values-in-range (suc n) l h =
      let us = reset_values rows n vs in
      let g = values-in-range n l h in
      let d = (row_at rows n).standard.v in
      by-writes n us (λ us. values_in_range parameters us ≡ true)
      (set_in_range us n d (values_length n ∙ l) g (is_true (allowed (row_at rows n) d) (sheet.defaults n)))
      g

  module _ (i : ℕ) where
    kept_here : (us : List ℤ) → writes (row_at rows i).access ≡ false → value_at (reset_value rows i us) i ≡ value_at us i
    kept_here us w = rw w refl

    values_kept : (n : ℕ) → writes (row_at rows i).access ≡ false → value_at (reset_values rows n vs) i ≡ value_at vs i
    unfolding reset_values
    values_kept zero w = refl
    values_kept (suc n) w = by (eqb i n) refl ∙ values_kept n w
      where
        by : (b : Bool) → eqb i n ≡ b → value_at (reset_value rows n (reset_values rows n vs)) i ≡ value_at (reset_values rows n vs) i
        by true e =
            let us = reset_values rows n vs in
            subst (λ (k : ℕ). value_at (reset_value rows k us) i ≡ value_at us i) (eqb-true i n e) (kept_here us w)
        by false e = one-other n (reset_values rows n vs) i (eqb-false i n e)

    set_here : (us : List ℤ) → length us ≡ 103 → i < 103 → writes (row_at rows i).access ≡ true → value_at (reset_value rows i us) i ≡ (row_at rows i).standard
    set_here us l h w = rw w (set_read us i (row_at rows i).standard.v l h)

    values_set : (n : ℕ) → i < n → length vs ≡ 103 → i < 103 → writes (row_at rows i).access ≡ true → value_at (reset_values rows n vs) i ≡ (row_at rows i).standard
    unfolding reset_values
    values_set zero g l h w = absurd (omega arith)
    values_set (suc n) g l h w =
        let us = reset_values rows n vs in
        let here = set_here us (values_length n ∙ l) h w in
        ⊎_elim
        (λ (e : i ≡ n). subst (λ (k : ℕ). value_at (reset_value rows k us) i ≡ (row_at rows i).standard) e here)
        (λ (f : i < n). one-other n us i (λ e. omega arith) ∙ values_set n f l h w)
        (eq-or-lt_of_le (omega arith))

-- ---- cells
by-stored : (n : ℕ) (s : List ℕ) (P : List ℕ → Type 0) → P (put_cell s (cell_of rows n) (row_at rows n).standard.v) → P s → P (reset_cell rows n s)
by-stored n s P h g = by (stored (row_at rows n).access)
  where
    by : (b : Bool) → P (pick b (put_cell s (cell_of rows n) (row_at rows n).standard.v) s)
    by true = h
    by false = g

-- every default is a word
small : ℤ → Bool
small (pos n) = ltb n 2147483648
small (negsuc n) = ltb n 2147483648

all_small : List Row → Bool
all_small [] = true
all_small (x ∷ xs) = small x.standard.v && all_small xs

each-small : (t : List Row) → T (all_small t) → (i : ℕ) → T (small (row_at t i).standard.v)
unfolding all_small small
each-small [] h i = tt
each-small (x ∷ xs) h zero = and_left (small x.standard.v) (all_small xs) h
each-small (x ∷ xs) h (suc i) = each-small xs (and_right (small x.standard.v) (all_small xs) h) i

small-fits : (z : ℤ) → T (small z) → SFits w32 z
unfolding small
small-fits (pos n) h = record { sfits = ltb→lt n 2147483648 h }
small-fits (negsuc n) h = record { sfits = ltb→lt n 2147483648 h }

default-fits : (i : ℕ) → SFits w32 (row_at rows i).standard.v
unfolding all_small small rows parameters axis globals rwe_rows rw_rows r_rows
default-fits i = small-fits (row_at rows i).standard.v (each-small rows tt i)

module _ (i : ℕ) (h : i < 103) (w : stored (row_at rows i).access ≡ true) where
  -- cells rise, so each lies in the store and no later place has it
  above : (j : ℕ) → i < j → cell_of rows i < cell_of rows j
  above j g = (sheet.laws).cells_rise i j (is_T (stored (row_at rows i).access) w) g h

  room : (s : List ℕ) → length s ≡ 364 → cell_of rows i * 4 + 4 ≤ length s
  room s l = omega (arith, above 103 h, past-cell 103 (omega arith), l)

  cell-here : (s : List ℕ) → length s ≡ 364 → cell_at (reset_cell rows i s) (cell_of rows i) ≡ (row_at rows i).standard
  cell-here s l = rw w (cell_read s (cell_of rows i) (row_at rows i).standard.v (room s l) (default-fits i))

  cell_stays : (n : ℕ) (s : List ℕ) → i < n → cell_at (reset_cell rows n s) (cell_of rows i) ≡ cell_at s (cell_of rows i)
  cell_stays n s g =
      by-stored n s (λ m. cell_at m (cell_of rows i) ≡ cell_at s (cell_of rows i))
      (cell_other s (cell_of rows n) (cell_of rows i) (row_at rows n).standard.v (λ e. omega (arith, e, above n g)))
      refl

  cells_set : (s : List ℕ) → length s ≡ 364 → (n : ℕ) → i < n → cell_at (reset_cells rows n s) (cell_of rows i) ≡ (row_at rows i).standard
  unfolding reset_cells
  cells_set s l zero g = absurd (omega arith)
  cells_set s l (suc n) g =
      let m = reset_cells rows n s in
      let here = cell-here m (cells_length rows n s ∙ l) in
      ⊎_elim
      (λ (e : i ≡ n). subst (λ (k : ℕ). cell_at (reset_cell rows k m) (cell_of rows i) ≡ (row_at rows i).standard) e here)
      (λ (f : i < n). cell_stays n m f ∙ cells_set s l n f)
      (eq-or-lt_of_le (omega arith))

pub laws : Laws
laws =
    record {
      values_set = λ vs i l h w. values_set vs i 103 h l h w;
      values_kept = λ vs i w. values_kept vs i 103 w;
      values-in-range = λ vs l h. values-in-range vs 103 l h;
      values_length = λ vs. values_length vs 103;
      cells_set = λ s i l h w. cells_set i h w s l 103 h;
      cells_length = λ s. cells_length rows 103 s;
    }
