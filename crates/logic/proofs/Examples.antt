-- NOT is -1 minus its operand, and the worked examples compute. Assumes nothing.
use mathlib.Core.Path.{◌≡◌, refl, ap, ◌∙◌}
use Prim.Native.Nat.{ℕ, zero, suc, ◌+◌, ◌-◌}
use native.Mathlib.Omega.{arith}
use borrow.Author.Tests.{le-ltb}
use lib.IntN.{ℤ, pos, negsuc, sub_ℕ, ◌-ℤ◌}
use mir.Syntax.{w32}
use mir.Val.{SFits, to_z}
use mir.ValLaws.{to_z_pos, to_z-neg}
use Rattle.logic.specs.Logic.{not_w}
use Rattle.logic.specs.Laws.{Laws}

less_one : (n : ℕ) → pos n ≡ sub_ℕ (suc n) 1
less_one n =
    let e : n ≡ suc n - 1 = omega arith in
    simp (le-ltb (suc n) 1 (omega arith)) (ap pos e)

not_is : (a : ℤ) → SFits w32 a → not_w a ≡ negsuc 0 -ℤ a
not_is (pos zero) f = refl
not_is (pos (suc n)) f =
    let e : 4294967295 - suc n ≡ 4294967296 - suc (suc n) = omega arith in
    let z : n ≡ 0 + n = omega arith in
    ap (to_z w32) e ∙ to_z-neg w32 (suc n) f.sfits ∙ ap (λ (m : ℕ). negsuc (suc m)) z
not_is (negsuc n) f =
    let e : 4294967295 - (4294967296 - suc n) ≡ n = omega (arith, f.sfits) in
    ap (to_z w32) e ∙ to_z_pos w32 n f.sfits ∙ less_one n

pub laws : Laws
laws = record { not_is = not_is; and_ones = refl; or_sign = refl; xor_ones = refl; not_zero = refl }
