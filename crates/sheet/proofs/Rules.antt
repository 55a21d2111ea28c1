-- The rules of the sheet, each by one test that antt computes over its rows. Assumes nothing.
use Prim.Native.Nat.{ℕ, zero, suc, ◌<◌}
use native.Mathlib.Omega.{arith}
use mathlib.Core.Path.{◌≡◌, refl, sym, subst}
use mathlib.Core.Bool.{Bool, true, false, ◌&&◌}
use mathlib.Core.List.{List, [], ◌∷◌, ◌++◌}
use borrow.Author.Tests.{ne_eqb, le-leb}
use lib.Dec.{T, ltb, ltb→lt}
use lib.IntN.{ℤ, pos, negsuc}
use lib.ListN.{length}
use mir.Syntax.{w32}
use mir.Val.{SFits}
use Rattle.words.specs.Word.{pick}
use Rattle.words.specs.declared.Word.{Word}
use Rattle.words.proofs.Bools.{and_left, and_right}
use Rattle.sheet.specs.Laws.{Laws, Rising, one_of}
use Rattle.rows.specs.Row.{allowed, taken}
use Rattle.sheet.specs.Rows.{parameters, rows, row_at}
use Rattle.sheet.specs.Sheet.{axis, globals, read_only, rwe_rows, rw_rows, r_rows, user_row}
use Rattle.rows.specs.declared.Row.{Row}
use Rattle.rows.specs.declared.Access.TheVariants.{Rwe}
use Rattle.sheet.specs.Places.{all_below}
use Rattle.sheet.proofs.Below.{below}
use Rattle.sheet.proofs.Counts.{own, rise}
use Rattle.sheet.proofs.Sets.{set-row, whole_range}

above : List Row → ℕ → ℕ → Bool
above t j i = ltb (row_at t i).number (row_at t j).number

risen : List Row → ℕ → Bool
unfolding above
risen t j = all_below (above t j) j

rises : (t : List Row) → T (all_below (risen t) (length t)) → Rising t
unfolding risen above
rises t h i j p q = ltb→lt (row_at t i).number (row_at t j).number (below (above t j) j (below (risen t) (length t) h j q) i p)

sound : Row → Bool
sound x = allowed x x.standard.v

every : List Row → Bool
every [] = true
every (x ∷ xs) = sound x && every xs

each : (t : List Row) → T (every t) → (i : ℕ) → T (sound (row_at t i))
unfolding every sound allowed
each [] h i = tt
each (x ∷ xs) h zero = and_left (sound x) (every xs) h
each (x ∷ xs) h (suc i) = each xs (and_right (sound x) (every xs) h) i

pub defaults : (i : ℕ) → T (allowed (row_at rows i) (row_at rows i).standard.v)
unfolding every sound allowed rows parameters axis globals rwe_rows rw_rows r_rows
defaults = each rows tt

-- what is taken is allowed where the default is
take_by : (x : Row) (w : Word) (b : Bool) → allowed x w.v ≡ b → T (allowed x x.standard.v) → T (allowed x (pick b w x.standard).v)
take_by x w true e h = subst (λ (t : Bool). T t) (sym e) tt
take_by x w false e h = h

pub takes : (i : ℕ) (w : Word) → T (allowed (row_at rows i) (taken (row_at rows i) w).v)
unfolding taken
takes i w = take_by (row_at rows i) w (allowed (row_at rows i) w.v) refl (defaults i)

-- every word is within 32 bits
pub user_variable : (z : ℤ) → SFits w32 z → allowed user_row z ≡ true
user_variable (pos n) f = let h = f.sfits in rw (whole_range user_row (pos n) refl) (simp (le-leb n 2147483647 (omega arith)))
user_variable (negsuc n) f =
    let h = f.sfits in
    rw (whole_range user_row (negsuc n) refl) (simp (le-leb n 2147483647 (omega arith)))

none-14 : (k : ℕ) → 3 < k → one_of (0 ∷ 1 ∷ 3 ∷ []) (pos k) ≡ false
none-14 k h = simp (ne_eqb k 0 (λ e. omega arith), ne_eqb k 1 (λ e. omega arith), ne_eqb k 3 (λ e. omega arith))

none-102 : (k : ℕ) → 2 < k → one_of (0 ∷ 2 ∷ []) (pos k) ≡ false
none-102 k h = simp (ne_eqb k 0 (λ e. omega arith), ne_eqb k 2 (λ e. omega arith))

pub laws : Laws
unfolding rows parameters axis globals read_only rwe_rows rw_rows r_rows allowed risen above
laws =
    record {
      rwe-rows = refl;
      axis_rows = refl;
      parameter_rows = refl;
      all_rows = refl;
      rising = rises axis tt;
      globals_rising = rises (globals ++ read_only) tt;
      cell_rows = refl;
      cell_numbers = refl;
      own_cell = own rows;
      cells_rise = rise rows;
      defaults = defaults;
      takes = takes;
      user_variable = user_variable;
      whole_range = whole_range;
      set_14 = set-row 14 Rwe 3 11 (pos 3) (0 ∷ 1 ∷ 3 ∷ []) tt none-14;
      set_102 = set-row 102 Rwe 2 5 (pos 0) (0 ∷ 2 ∷ []) tt none-102;
      not_1 = refl;
      ours = refl;
    }
