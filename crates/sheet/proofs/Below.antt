-- A rule at every number below another, by one test that antt computes. Assumes nothing.
use Prim.Native.Nat.{ℕ, zero, suc, ◌<◌}
use native.Mathlib.Nat.{le_of_suc-le-suc, not-suc-le-zero, eq-or-lt_of_le}
use mathlib.Core.Logic.{⊎_elim}
use native.Mathlib.Omega.{arith}
use mathlib.Core.Path.{◌≡◌, refl, subst, sym}
use mathlib.Core.Bool.{Bool, true}
use lib.Dec.{T}
use Rattle.words.proofs.Bools.{and_left, and_right}
use Rattle.sheet.specs.Places.{all_below}

pub below : (f : ℕ → Bool) (n : ℕ) → T (all_below f n) → (k : ℕ) → k < n → T (f k)
below f zero t k h = absurd (not-suc-le-zero h)
below f (suc n) t k h =
    ⊎_elim (λ (e : k ≡ n). subst (λ (m : ℕ). T (f m)) (sym e) (and_left (f n) (all_below f n) t))
    (below f n (and_right (f n) (all_below f n) t) k)
    (eq-or-lt_of_le (le_of_suc-le-suc h))

-- true where it holds at each
pub below_of : (f : ℕ → Bool) (n : ℕ) → ((k : ℕ) → k < n → f k ≡ true) → all_below f n ≡ true
below_of f zero h = refl
below_of f (suc n) h = simp (h n (omega arith), below_of f n (λ k l. h k (omega arith)))

-- two tests that agree at every number below n
pub below-same : (f g : ℕ → Bool) (n : ℕ) → ((k : ℕ) → k < n → f k ≡ g k) → all_below f n ≡ all_below g n
below-same f g zero h = refl
below-same f g (suc n) h = simp (h n (omega arith), below-same f g n (λ k l. h k (omega arith)))
