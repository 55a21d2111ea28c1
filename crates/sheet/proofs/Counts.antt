-- How the cells of a list of rows are counted. Assumes nothing.
use Prim.Native.Nat.{ℕ, zero, suc, ◌<◌}
use native.Mathlib.Nat.{le_of_suc-le-suc, not-suc-le-zero}
use native.Mathlib.Omega.{arith}
use mathlib.Core.Path.{◌≡◌, refl}
use mathlib.Core.Bool.{Bool, true, false}
use mathlib.Core.List.{List, [], ◌∷◌}
use lib.Dec.{T}
use lib.ListN.{length, get_or, take}
use Rattle.words.specs.Word.{pick}
use Rattle.rows.specs.Row.{stored}
use Rattle.sheet.specs.Rows.{row_at, cells, cell_of}
use Rattle.sheet.specs.Sheet.{user_row}
use Rattle.rows.specs.declared.Row.{Row}

-- one row more, with a cell or without
own-step : (b : Bool) (x : Row) (xs ys : List Row) → get_or (pick b (x ∷ ys) ys) (length (pick b (x ∷ xs) xs)) user_row ≡ get_or ys (length xs) user_row
own-step true x xs ys = refl
own-step false x xs ys = refl

own_first : (b : Bool) (x : Row) (ys : List Row) → T b → get_or (pick b (x ∷ ys) ys) 0 user_row ≡ x
own_first true x ys t = refl
own_first false x ys t = absurd t

pub own : (t : List Row) (i : ℕ) → T (stored (row_at t i).access) → i < length t → get_or (cells t) (cell_of t i) user_row ≡ row_at t i
own [] i s h = absurd (not-suc-le-zero h)
own (x ∷ xs) zero s h = own_first (stored x.access) x (cells xs) s
own (x ∷ xs) (suc i) s h =
    rw (own-step (stored x.access) x (cells (take i xs)) (cells xs)) (own xs i s (le_of_suc-le-suc h))

rise-step : (b : Bool) (x : Row) (xs ys : List Row) → length xs < length ys → length (pick b (x ∷ xs) xs) < length (pick b (x ∷ ys) ys)
rise-step true x xs ys h = omega arith
rise-step false x xs ys h = h

rise-first : (b : Bool) (x : Row) (ys : List Row) → T b → 0 < length (pick b (x ∷ ys) ys)
rise-first true x ys t = omega arith
rise-first false x ys t = absurd t

pub rise : (t : List Row) (i j : ℕ) → T (stored (row_at t i).access) → i < j → i < length t → cell_of t i < cell_of t j
rise [] i j s h l = absurd (not-suc-le-zero l)
rise (x ∷ xs) i zero s h l = absurd (not-suc-le-zero h)
rise (x ∷ xs) zero (suc j) s h l = rise-first (stored x.access) x (cells (take j xs)) s
rise (x ∷ xs) (suc i) (suc j) s h l =
    rise-step (stored x.access) x (cells (take i xs)) (cells (take j xs))
    (rise xs i j s (le_of_suc-le-suc h) (le_of_suc-le-suc l))
