-- `wrap` is the one way to wrap at 32 bits, and the worked examples compute. Assumes nothing.
use mathlib.Core.Path.{◌≡◌, refl, ap, ◌∙◌}
use mathlib.Core.Bool.{Bool, true, false, cond}
use Prim.Native.Nat.{ℕ, suc, ◌-◌, ◌%◌, ◌≤◌, ◌<◌}
use native.Mathlib.Omega.{arith}
use lib.Dec.{ltb}
use lib.IntN.{ℤ, pos, negsuc, nat_abs, ◌+ℤ◌}
use mir.Syntax.{w32, w64}
use mir.Val.{SFits, of_z, to_z}
use mir.ValLaws.{to_z-of_z, to_z-Fits}
use borrow.Author.Tests.{ltb-true, ltb-false}
use Rattle.wrapping.specs.Wrap.{low, wrap}
use Rattle.wrapping.specs.Laws.{Laws}

-- the lowest 32 bits of a number's 64
pub low-bits : (z : ℤ) → SFits w64 z → of_z w64 z % 4294967296 ≡ low z
low-bits (pos n) f = refl
low-bits (negsuc n) f = omega (arith, f.sfits)

low-lt : (z : ℤ) → low z < 4294967296
low-lt (pos n) = omega arith
low-lt (negsuc n) = omega arith

pub wrap-word : (z : ℤ) → SFits w32 (wrap z)
unfolding wrap
wrap-word z = to_z-Fits w32 (low z) (record { fits = low-lt z })

low_word : (z : ℤ) → nat_abs z ≤ 2147483648 → low z ≡ of_z w32 z
low_word (pos n) h = omega arith
low_word (negsuc n) h = omega arith

-- 2147483648 is no word, but its 32 bits are those of one
pub wrap-cast : (z : ℤ) → nat_abs z ≤ 2147483648 → wrap z ≡ to_z w32 (of_z w32 z)
unfolding wrap
wrap-cast z h = ap (to_z w32) (low_word z h)

pub word_abs : (z : ℤ) → SFits w32 z → nat_abs z ≤ 2147483648
word_abs (pos n) f = omega (arith, f.sfits)
word_abs (negsuc n) f = omega (arith, f.sfits)

pub wrap-stays : (z : ℤ) → SFits w32 z → wrap z ≡ z
wrap-stays z f = wrap-cast z (word_abs z f) ∙ to_z-of_z w32 z f

low-cond : (n : ℕ) (t : Bool) → ltb 4294967296 (suc n) ≡ t → low (cond t (negsuc (suc n - suc 4294967296)) (pos (4294967296 - suc n))) ≡ low (negsuc n)
low-cond n true h = omega (arith, ltb-true 4294967296 (suc n) h)
low-cond n false h = omega (arith, ltb-false 4294967296 (suc n) h)

low-turns : (z : ℤ) → low (z +ℤ pos 4294967296) ≡ low z
low-turns (pos n) = omega arith
low-turns (negsuc n) = low-cond n (ltb 4294967296 (suc n)) refl

pub wrap-turns : (z : ℤ) → wrap (z +ℤ pos 4294967296) ≡ wrap z
unfolding wrap
wrap-turns z = ap (to_z w32) (low-turns z)

pub laws : Laws
unfolding wrap
laws =
    record {
      is_word = wrap-word;
      stays = wrap-stays;
      turns = wrap-turns;
      mul_wraps = refl;
      add_wraps = refl;
      sub_wraps = refl;
    }
