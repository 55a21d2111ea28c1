-- What the wider tests leave out: a value that its row allows passes them. Assumes nothing.
use Prim.Native.Nat.{ℕ, ◌-◌, ◌+◌, ◌<◌, ◌≤◌, ◌^◌, suc}
use native.Mathlib.Omega.{arith}
use mathlib.Core.Path.{◌≡◌, subst}
use mathlib.Core.Bool.{Bool, true, false}
use mathlib.Core.List.{List}
use borrow.Author.Tests.{leb-true, le-leb}
use lib.Dec.{leb, ltb}
use lib.IntN.{ℤ, pos, negsuc}
use lib.ListN.{length, get_or}
use mir.Syntax.{w32}
use mir.Val.{sel, bits, hbits}
use Rattle.words.specs.Word.{of_bits}
use Rattle.words.proofs.Bools.{is_T, each}
use Rattle.order.specs.Order.{in_range}
use Rattle.rows.specs.Row.{allowed}
use Rattle.rows.specs.declared.Row.{Row}
use Rattle.sheet.specs.Rows.{rows, parameters, row_at}
use Rattle.sheet.specs.Sheet.{axis, globals, rwe_rows, rw_rows, r_rows}
use Rattle.values.specs.Values.{allowed_at}
use Rattle.reg_image.specs.Image.{registers_of}
use Rattle.reg_image.specs.Laws.{axis-at}

not_negative : (t : Bool) (n m lo hi : ℕ) → in_range (pos lo) (pos hi) (sel t (pos n) (negsuc m)) ≡ true → leb n hi ≡ true
not_negative true n m lo hi h = (each (leb lo n) (leb n hi) h).1
not_negative false n m lo hi h = absurd (is_T false h)

-- the bits of a word in a range from 0 or more on are at most its end
within-bits : (n lo hi : ℕ) → in_range (pos lo) (pos hi) (of_bits n) ≡ true → leb n hi ≡ true
within-bits n lo hi h = not_negative (ltb n (2 ^ hbits w32)) n (2 ^ bits w32 - suc n) lo hi h

in-its-range : (r : Row) (z : ℤ) → allowed r z ≡ true → in_range r.low.v r.high.v z ≡ true
unfolding allowed
in-its-range r z h = (each (in_range r.low.v r.high.v z) _ h).0

module _ (l : List ℕ) (n : length l ≡ 137) where
  ranged : (i : ℕ) → i < 43 → allowed_at rows (registers_of l).values i ≡ true → in_range (row_at rows i).low.v (row_at rows i).high.v (of_bits (get_or l (94 + i) 0)) ≡ true
  ranged i h e = in-its-range (row_at rows i) _ (subst (λ (z : ℤ). allowed (row_at rows i) z ≡ true) (axis-at l n i h) e)

  pub wider-2 : allowed_at rows (registers_of l).values 2 ≡ true → leb (get_or l 96 0) 3 ≡ true
  unfolding rows parameters axis globals rwe_rows rw_rows r_rows
  wider-2 e = within-bits (get_or l 96 0) 0 3 (ranged 2 (omega arith) e)

  pub wider-25 : allowed_at rows (registers_of l).values 25 ≡ true → leb (get_or l 119 0) 2 ≡ true
  unfolding rows parameters axis globals rwe_rows rw_rows r_rows
  wider-25 e = within-bits (get_or l 119 0) 0 2 (ranged 25 (omega arith) e)

  pub wider-13 : allowed_at rows (registers_of l).values 13 ≡ true → leb (get_or l 107 0) 2147483648 ≡ true
  unfolding rows parameters axis globals rwe_rows rw_rows r_rows
  wider-13 e =
      let h : get_or l 107 0 ≤ 2147483647 = leb-true (get_or l 107 0) 2147483647 (within-bits (get_or l 107 0) 6 2147483647 (ranged 13 (omega arith) e)) in
      le-leb (get_or l 107 0) 2147483648 (omega arith)
