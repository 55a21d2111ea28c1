-- Plus or minus a limit, and negation within it. Assumes nothing.
use Prim.Native.Nat.{ℕ, zero, suc}
use native.Mathlib.Omega.{arith}
use mathlib.Core.Path.{◌≡◌, refl, sym, ◌∙◌}
use mathlib.Core.Bool.{Bool, true, false, ◌&&◌, true≢false, false≢true}
use borrow.Author.Tests.{leb-true}
use lib.Dec.{leb, leb-zero, leb-suc-zero, leb-suc-suc}
use lib.IntN.{ℤ, pos, negsuc, neg_ℤ, ◌-ℤ◌, +ℤ_idl}
use lib.Signed.{mag, le_z, lt_z}
use mir.Syntax.{w32}
use mir.Val.{SFits, of_z, to_z}
use mir.ValLaws.{to_z-of_z}
use Rattle.rules.specs.Motion.{within_limit, is_word}

no-and : (b : Bool) → false ≡ b && false
no-and true = refl
no-and false = refl

both : (b : Bool) → b ≡ b && true
both true = refl
both false = refl

-- of a velocity that is not negative, and of one that is
pub up : (l v : ℤ) → le_z (pos 0) v ≡ true → le_z v l ≡ within_limit l v
unfolding within_limit
up (pos zero) (pos n) h = simp (leb-zero n)
up (pos (suc m)) (pos n) h = refl
up (negsuc m) (pos n) h = no-and (leb (suc m) n)
up l (negsuc n) h = absurd (false≢true h)

pub down : (l v : ℤ) → le_z (pos 0) v ≡ false → lt_z (pos (mag v)) l ≡ within_limit l v
unfolding within_limit
down l (pos n) h = absurd (true≢false (sym (leb-zero n) ∙ h))
down (pos zero) (negsuc n) h = leb-suc-zero n
down (pos (suc m)) (negsuc n) h = leb-suc-suc n m ∙ both (leb n m)
down (negsuc m) (negsuc n) h = refl

pub zero-less : (z : ℤ) → pos 0 -ℤ z ≡ neg_ℤ z
zero-less z = +ℤ_idl (neg_ℤ z)

low_end : (m n : ℕ) → leb n m && true ≡ true → leb n m ≡ true
low_end m n h = both (leb n m) ∙ h

-- what is within the limit has a negative
pub negates : (l v : ℤ) → SFits w32 l → SFits w32 v → within_limit l v ≡ true → SFits w32 (neg_ℤ v)
unfolding within_limit
negates l (pos zero) f g h = record { sfits = omega arith }
negates l (pos (suc n)) f g h = let k = g.sfits in record { sfits = omega (arith, k) }
negates (pos zero) (negsuc n) f g h = absurd (false≢true h)
negates (pos (suc m)) (negsuc n) f g h =
    let k = f.sfits in let e = leb-true n m (low_end m n h) in record { sfits = omega (arith, k, e) }
negates (negsuc m) (negsuc n) f g h = absurd (false≢true h)

-- what fits 32 bits is a word
pub word_fits : (z : ℤ) → is_word z ≡ true → SFits w32 z
word_fits (pos n) h = let e = leb-true n 2147483647 h in record { sfits = omega (arith, e) }
word_fits (negsuc n) h = let e = leb-true n 2147483647 (both (leb n 2147483647) ∙ h) in record { sfits = omega (arith, e) }

-- the machine's negation is the number's
pub back : (l v : ℤ) → SFits w32 l → SFits w32 v → within_limit l v ≡ true
    → to_z w32 (of_z w32 (pos 0 -ℤ to_z w32 (of_z w32 v))) ≡ neg_ℤ v
back l v f g h = rw (to_z-of_z w32 v g, zero-less v) (to_z-of_z w32 (neg_ℤ v) (negates l v f g h))
