-- A list by its places. Assumes nothing.
use Prim.Native.Nat.{ℕ, zero, suc, ◌+◌, ◌<◌}
use native.Mathlib.Nat.{le_of_suc-le-suc, not-suc-le-zero}
use native.Mathlib.Omega.{arith}
use mathlib.Core.Path.{◌≡◌, refl, ap, ◌∙◌}
use lib.ListN.{length, get_or}
use Rattle.sheet.specs.Places.{tabulate}

module _ {A : Type 0} (f : ℕ → A) where
  pub at-tabulate : (i n k : ℕ) (d : A) → k < n → get_or (tabulate f i n) k d ≡ f (i + k)
  at-tabulate i zero k d h = absurd (not-suc-le-zero h)
  at-tabulate i (suc n) zero d h = let e : i ≡ i + 0 = omega arith in ap f e
  at-tabulate i (suc n) (suc k) d h =
      let e : i + 1 + k ≡ i + suc k = omega arith in
      at-tabulate (i + 1) n k d (le_of_suc-le-suc h) ∙ ap f e

  pub length-tabulate : (i n : ℕ) → length (tabulate f i n) ≡ n
  length-tabulate i zero = refl
  length-tabulate i (suc n) = ap suc (length-tabulate (i + 1) n)
