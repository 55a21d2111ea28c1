-- A quotient toward zero and its remainder make up the dividend, and the remainder is small and has its sign. Assumes
-- nothing.
use mathlib.Core.Path.{◌≡◌, refl, sym, ap, ◌∙◌}
use mathlib.Core.Bool.{true, false, false≢true}
use Prim.Native.Nat.{ℕ, zero, suc, ◌+◌, ◌*◌, ◌/◌, ◌%◌, ◌<◌}
use native.Mathlib.Omega.{arith}
use native.Mathlib.Nat.{div-add-mod', mod-lt, mod-le}
use borrow.Author.Tests.{eqb-false, leb-true, le-leb}
use lib.Dec.{leb-zero}
use lib.IntN.{ℤ, pos, negsuc, neg_ℤ, nat_abs, ◌+ℤ◌, ◌*ℤ◌, neg_ℤ-+ℤ}
use lib.Signed.{le_z, quot_z, rem_z}
use Rattle.dividing.specs.Divide.{is_zero}

-- the negation of a product, by its first factor's negation
neg-pos : (q b : ℕ) → neg_ℤ (pos q) *ℤ pos b ≡ neg_ℤ (pos (q * b))
neg-pos zero b = let e : 0 * b ≡ 0 = omega arith in rw e
neg-pos (suc q) b = refl

neg-neg : (q b : ℕ) → neg_ℤ (pos q) *ℤ negsuc b ≡ pos (q * suc b)
neg-neg zero b = let e : 0 * suc b ≡ 0 = omega arith in rw e
neg-neg (suc q) b = refl

neg_sum : (m n : ℕ) → neg_ℤ (pos m) +ℤ neg_ℤ (pos n) ≡ neg_ℤ (pos (m + n))
neg_sum m n = sym (neg_ℤ-+ℤ (pos m) (pos n))

pub whole : (a b : ℤ) → quot_z a b *ℤ b +ℤ rem_z a b ≡ a
whole (pos a) (pos b) = ap pos (div-add-mod' a b)
whole (pos a) (negsuc b) = rw (neg-neg (a / suc b) b) (ap pos (div-add-mod' a (suc b)))
whole (negsuc a) (pos b) =
    rw (neg-pos (suc a / b) b) (neg_sum (suc a / b * b) (suc a % b) ∙ ap (λ (n : ℕ). neg_ℤ (pos n)) (div-add-mod' (suc a) b))
whole (negsuc a) (negsuc b) =
    neg_sum (suc a / suc b * suc b) (suc a % suc b) ∙ ap (λ (n : ℕ). neg_ℤ (pos n)) (div-add-mod' (suc a) (suc b))

abs_neg : (n : ℕ) → nat_abs (neg_ℤ (pos n)) ≡ n
abs_neg zero = refl
abs_neg (suc n) = refl

positive : (b : ℤ) → is_zero b ≡ false → 0 < nat_abs b
positive (pos zero) h = absurd (eqb-false 0 0 h refl)
positive (pos (suc n)) h = omega arith
positive (negsuc n) h = omega arith

pub small : (a b : ℤ) → is_zero b ≡ false → nat_abs (rem_z a b) < nat_abs b
small (pos a) b h = mod-lt a (positive b h)
small (negsuc a) b h = rw (abs_neg (suc a % nat_abs b)) (mod-lt (suc a) (positive b h))

down : (n : ℕ) → le_z (neg_ℤ (pos n)) (pos 0) ≡ true
down zero = refl
down (suc n) = refl

pub sign_up : (a b : ℤ) → le_z (pos 0) a ≡ true → le_z (pos 0) (rem_z a b) ≡ true
sign_up (pos a) b h = leb-zero (a % nat_abs b)
sign_up (negsuc a) b h = absurd (false≢true h)

pub sign_down : (a b : ℤ) → le_z a (pos 0) ≡ true → le_z (rem_z a b) (pos 0) ≡ true
sign_down (pos a) b h = le-leb (a % nat_abs b) 0 (omega (arith, leb-true a 0 h, mod-le a (nat_abs b)))
sign_down (negsuc a) b h = down (suc a % nat_abs b)
