-- The laws of the working values. Assumes nothing.
use Prim.Native.Nat.{ℕ, ◌<◌}
use native.Mathlib.Nat.{zero-add}
use native.Mathlib.Omega.{arith}
use mathlib.Core.Path.{◌≡◌, refl, ap, ◌∙◌}
use mathlib.Core.Bool.{Bool, true, false}
use mathlib.Core.List.{List}
use borrow.Author.Tests.{lt-ltb, eqb-true, eqb-false}
use lib.Dec.{T, eqb, ltb}
use lib.IntN.{ℤ, pos}
use lib.ListN.{length, get_or, set, length-set}
use lib.Seq.{get_or-set_same, get_or-set_other}
use Rattle.words.specs.Word.{pick, word}
use Rattle.words.proofs.Bools.{is_true, is_T}
use Rattle.rows.specs.Row.{allowed, taken, stored}
use Rattle.sheet.specs.Rows.{rows, parameters, row_at, cell_of}
use Rattle.sheet.specs.Sheet.{axis, globals, rwe_rows, rw_rows, r_rows}
use Rattle.sheet.proofs.Below.{below, below_of}
use Rattle.sheet.proofs.Rules.{takes, defaults}
use Rattle.sheet.proofs.Tables.{at-tabulate, length-tabulate}
use Rattle.store.specs.Store.{cell_at}
use Rattle.values.specs.Values.{value_at, set_value, allowed_at, values_in_range, powered_at, powered_values}
use Rattle.values.specs.Laws.{Laws}
use Rattle.values.proofs.Scan.{row-of-parameter}

-- in range is: at every place
module _ (vs : List ℤ) where
  pub at_place : values_in_range parameters vs ≡ true → (i : ℕ) → i < 47 → allowed_at parameters vs i ≡ true
  unfolding values_in_range parameters axis globals rwe_rows rw_rows r_rows
  at_place h i l = is_true (allowed_at parameters vs i) (below (allowed_at parameters vs) 47 (is_T (values_in_range parameters vs) h) i l)

  pub of_places : ((i : ℕ) → i < 47 → allowed_at parameters vs i ≡ true) → values_in_range parameters vs ≡ true
  unfolding values_in_range parameters axis globals rwe_rows rw_rows r_rows
  of_places h = below_of (allowed_at parameters vs) 47 h

module _ (vs : List ℤ) (i : ℕ) (z : ℤ) where
  pub set_length : length (set_value vs i z) ≡ length vs
  set_length = by (ltb i 103)
    where
      by : (b : Bool) → length (pick b (set vs i z) vs) ≡ length vs
      by true = length-set vs i z
      by false = refl

  pub set_read : length vs ≡ 103 → i < 103 → value_at (set_value vs i z) i ≡ word z
  set_read l h = rw (lt-ltb i 103 h) (ap word (get_or-set_same vs i z (pos 0) (rw l h)))

  set_at : (j : ℕ) → (j ≡ i → ⊥) → get_or (set_value vs i z) j (pos 0) ≡ get_or vs j (pos 0)
  set_at j n = by (ltb i 103)
    where
      by : (b : Bool) → get_or (pick b (set vs i z) vs) j (pos 0) ≡ get_or vs j (pos 0)
      by true = get_or-set_other vs i j z (pos 0) n
      by false = refl

  pub set_other : (j : ℕ) → (j ≡ i → ⊥) → value_at (set_value vs i z) j ≡ value_at vs j
  set_other j n = rw (set_at j n)

  pub set_in_range : length vs ≡ 103 → values_in_range parameters vs ≡ true → allowed (row_at rows i) z ≡ true → values_in_range parameters (set_value vs i z) ≡ true
  set_in_range l h a = of_places (set_value vs i z) (λ j g. by j g (eqb j i) refl)
    where
      here : (j : ℕ) → j < 47 → j ≡ i → allowed_at parameters (set_value vs i z) j ≡ true
      here j g e =
          let f : i < 103 = omega arith in
          rw (e, lt-ltb i 103 f, get_or-set_same vs i z (pos 0) (rw l f), ← row-of-parameter i (omega arith)) a

      by : (j : ℕ) → j < 47 → (b : Bool) → eqb j i ≡ b → allowed_at parameters (set_value vs i z) j ≡ true
      by j g true e = here j g (eqb-true j i e)
      by j g false e = rw (set_at j (eqb-false j i e)) (at_place vs h j g)

module _ (s : List ℕ) where
  pub powered_length : length (powered_values rows s) ≡ 103
  unfolding powered_values rows parameters axis globals rwe_rows rw_rows r_rows
  powered_length = length-tabulate (λ i. (powered_at rows s i).v) 0 103

  module _ (i : ℕ) where
    powered-get : i < 103 → get_or (powered_values rows s) i (pos 0) ≡ (powered_at rows s i).v
    unfolding powered_values rows parameters axis globals rwe_rows rw_rows r_rows
    powered-get h = at-tabulate (λ k. (powered_at rows s k).v) 0 103 i (pos 0) h ∙ ap (λ (k : ℕ). (powered_at rows s k).v) (zero-add i)

    pub powered-at : i < 103 → value_at (powered_values rows s) i ≡ powered_at rows s i
    powered-at h = rw (lt-ltb i 103 h) (ap word (powered-get h))

    pub powered_good : i < 103 → stored (row_at rows i).access ≡ true → allowed (row_at rows i) (cell_at s (cell_of rows i)).v ≡ true → value_at (powered_values rows s) i ≡ cell_at s (cell_of rows i)
    unfolding powered_at taken
    powered_good h e a = powered-at h ∙ simp (e, a)

    pub powered_bad : i < 103 → stored (row_at rows i).access ≡ true → allowed (row_at rows i) (cell_at s (cell_of rows i)).v ≡ false → value_at (powered_values rows s) i ≡ (row_at rows i).standard
    unfolding powered_at taken
    powered_bad h e a = powered-at h ∙ simp (e, a)

    pub powered_unstored : i < 103 → stored (row_at rows i).access ≡ false → value_at (powered_values rows s) i ≡ (row_at rows i).standard
    unfolding powered_at
    powered_unstored h e = powered-at h ∙ simp e

    -- taken or default, it is allowed
    powered-allowed : T (allowed (row_at rows i) (powered_at rows s i).v)
    unfolding powered_at
    powered-allowed = by (stored (row_at rows i).access)
      where
        by : (b : Bool) → T (allowed (row_at rows i) (pick b (taken (row_at rows i) (cell_at s (cell_of rows i))) (row_at rows i).standard).v)
        by true = takes i (cell_at s (cell_of rows i))
        by false = defaults i

  pub powered_in_range : values_in_range parameters (powered_values rows s) ≡ true
  powered_in_range = of_places (powered_values rows s) (λ i h. by i h)
    where
      by : (i : ℕ) → i < 47 → allowed_at parameters (powered_values rows s) i ≡ true
      by i h = rw (powered-get i (omega arith), ← row-of-parameter i h) (is_true (allowed (row_at rows i) (powered_at rows s i).v) (powered-allowed i))

pub laws : Laws
laws =
    record {
      set_read = set_read;
      set_other = λ vs i j z. set_other vs i z j;
      set_length = set_length;
      set_in_range = set_in_range;
      powered_length = powered_length;
      powered_good = powered_good;
      powered_bad = powered_bad;
      powered_unstored = powered_unstored;
      powered_in_range = powered_in_range;
    }
