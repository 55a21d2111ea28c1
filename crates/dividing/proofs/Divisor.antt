-- Quotients and remainders of words at 32 bits. Assumes nothing.
use mathlib.Core.Path.{◌≡◌, refl, ap}
use Prim.Native.Nat.{ℕ, zero, suc, ◌*◌, ◌/◌, ◌≤◌, ◌<◌}
use native.Mathlib.Omega.{arith}
use mathlib.Core.Logic.{⊎_elim}
use native.Mathlib.Nat.{eq-or-lt_of_le, div-le_self, div-mul-le_self, div-one, mul-le-mul_left}
use lib.IntN.{ℤ, pos, negsuc, neg_ℤ, nat_abs}
use lib.Signed.{mag, quot_z, rem_z, mag_rem}
use mir.Syntax.{w32}
use mir.Val.{SFits, of_z, to_z}
use Rattle.wrapping.specs.Wrap.{wrap}
use Rattle.wrapping.proofs.Wraps.{wrap-cast, word_abs}

-- ---- the quotient is a word
mag-neg : (n : ℕ) {k : ℕ} → n ≤ suc k → mag (neg_ℤ (pos n)) ≤ k
mag-neg zero h = omega arith
mag-neg (suc n) h = omega arith

half : (a b : ℕ) → suc a / suc (suc b) * 2 ≤ suc a
half a b = omega (arith, div-mul-le_self (suc a) (suc (suc b)), mul-le-mul_left (suc a / suc (suc b)) two)
  where
    two : 2 ≤ suc (suc b)
    two = omega arith

-- the greatest magnitude left out
below : (n : ℕ) → n < 2147483648 → (n ≡ 2147483647 → ⊥) → suc n < 2147483648
below n h e = ⊎_elim (λ q. absurd (e q)) (λ l. omega arith) (eq-or-lt_of_le (at_most n h))
  where
    at_most : (n : ℕ) → n < 2147483648 → n ≤ 2147483647
    at_most n h = omega arith

pub quot-word : (a b : ℤ) → SFits w32 a → (a ≡ negsuc 2147483647 → b ≡ negsuc 0 → ⊥) → SFits w32 (quot_z a b)
quot-word (pos a) (pos b) f g = record { sfits = omega (arith, div-le_self a b, f.sfits) }
quot-word (pos a) (negsuc b) f g = record { sfits = omega (arith, mag-neg (a / suc b) {k = a} (omega (arith, div-le_self a (suc b))), f.sfits) }
quot-word (negsuc a) (pos b) f g = record { sfits = omega (arith, mag-neg (suc a / b) (div-le_self (suc a) b), f.sfits) }
quot-word (negsuc a) (negsuc zero) f g =
    record { sfits = omega (arith, div-one (suc a), below a f.sfits (λ e. g (ap negsuc e) refl)) }
quot-word (negsuc a) (negsuc (suc b)) f g = record { sfits = omega (arith, half a b, f.sfits) }

pub rem-word : (a b : ℤ) → SFits w32 a → SFits w32 (rem_z a b)
rem-word a b f = record { sfits = omega (arith, mag_rem a b, f.sfits) }

-- ---- every quotient of a word is cast as it wraps
abs_neg : (n : ℕ) → nat_abs (neg_ℤ (pos n)) ≡ n
abs_neg zero = refl
abs_neg (suc n) = refl

quot-abs : (a b : ℤ) → nat_abs (quot_z a b) ≤ nat_abs a
quot-abs (pos a) (pos b) = div-le_self a b
quot-abs (pos a) (negsuc b) = rw (abs_neg (a / suc b)) (div-le_self a (suc b))
quot-abs (negsuc a) (pos b) = rw (abs_neg (suc a / b)) (div-le_self (suc a) b)
quot-abs (negsuc a) (negsuc b) = div-le_self (suc a) (suc b)

pub wrap-quot : (a b : ℤ) → SFits w32 a → wrap (quot_z a b) ≡ to_z w32 (of_z w32 (quot_z a b))
wrap-quot a b f = wrap-cast (quot_z a b) (omega (arith, quot-abs a b, word_abs a f))
