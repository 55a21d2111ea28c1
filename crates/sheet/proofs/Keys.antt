-- The last arm of a `match` on a number: it is none of the keys. Assumes nothing.
use Prim.Native.Nat.{ℕ, zero, suc, ◌+◌, ◌≤◌}
use native.Mathlib.Nat.{eq-or-lt_of_le}
use native.Mathlib.Omega.{arith}
use mathlib.Core.Logic.{⊎_elim}
use mathlib.Core.Path.{◌≡◌, refl, sym}
use mathlib.Core.List.{List, [], ◌∷◌, map}
use borrow.Author.Tests.{ne_eqb}
use lib.ListN.{length}
use Rattle.sheet.specs.Places.{place_in}
use Rattle.rows.specs.declared.Row.{Row}

-- as the arm is told it: one key after the other, the pairs nested to the left
abbrev pub Nest : Type 0 → ℕ → List ℕ → Type 0
Nest A n [] = A
Nest A n (k ∷ ks) = Nest (A × (n ≡ k → ⊥)) n ks

unfoldable pub NoneOf : ℕ → List ℕ → Type 0
NoneOf n [] = Unit
NoneOf n (k ∷ ks) = (n ≡ k → ⊥) × NoneOf n ks

split : (A : Type 0) (n : ℕ) (ks : List ℕ) → Nest A n ks → A × NoneOf n ks
unfolding NoneOf
split A n [] r = (r, tt)
split A n (k ∷ ks) r = let s = split (A × (n ≡ k → ⊥)) n ks r in (s.0.0, (s.0.1, s.1))

pub none_of : (n : ℕ) (ks : List ℕ) → Nest Unit n ks → NoneOf n ks
none_of n ks r = (split Unit n ks r).1

-- a row of that number is not there
pub no_place : (t : List Row) (n : ℕ) → NoneOf n (map (λ (x : Row). x.number) t) → place_in t n ≡ length t
unfolding NoneOf
no_place [] n r = refl
no_place (x ∷ xs) n r = rw (ne_eqb n x.number r.0, no_place xs n r.1) (omega arith)

-- a number that is none of 0 to k
abbrev pub from : ℕ → ℕ → List ℕ
from k zero = []
from k (suc m) = k ∷ from (k + 1) m

pub beyond : (n k m : ℕ) → k ≤ n → NoneOf n (from k m) → k + m ≤ n
unfolding NoneOf
beyond n k zero h r = omega arith
beyond n k (suc m) h r =
    ⊎_elim (λ e. absurd (r.0 (sym e))) (λ l. let q = beyond n (k + 1) m (omega arith) r.1 in omega arith) (eq-or-lt_of_le h)
