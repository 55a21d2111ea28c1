-- Depths as the bits of a number. Assumes nothing.
use Prim.Native.Nat.{ℕ, zero, suc, ◌+◌, ◌*◌, ◌/◌, ◌%◌, ◌^◌, ◌<◌, ◌≤◌}
use native.Mathlib.Nat.{le-max_left, le-max_right, sub-add-eq-max}
use native.Mathlib.Omega.{arith}
use native.Mathlib.Decide.{dec_lt, ℕ_discrete}
use mathlib.Core.Path.{◌≡◌, refl, sym, ap, ◌∙◌}
use mathlib.Core.Logic.{◌⊎◌, inl, inr}
use lib.Bits.{bit_or, or_lt, or_add_and, and_le_r}
use Rattle.std.specs.Int.{w16}
use Rattle.std.specs.Int.{bit_at, trailing_zeros}
use Rattle.std.proofs.lemmas.Nat.Bits.{bit_at_lowest, bit_at-suc, bit_at-zero, bit_at_or, bit_at-lt, bit_at_above, bit_at_cat_low, bit_at-trailing_zeros}
use Rattle.walking.specs.Walk.{Has}

pub has-none : (d : ℕ) → Has 0 d → ⊥
has-none d h = omega (arith, bit_at-zero d)

pub only_zero : (d : ℕ) → Has 1 d → d ≡ 0
only_zero zero h = refl
only_zero (suc d) h = absurd (has-none d (sym (bit_at-suc 1 d) ∙ h))

-- ---- depths joined
module _ (a b d : ℕ) where
  pub or_left : Has a d → Has (bit_or a b) d
  or_left h = omega (arith, bit_at_or a b d, le-max_left (bit_at a d) (bit_at b d), bit_at-lt (bit_or a b) d)

  pub or_right : Has b d → Has (bit_or a b) d
  or_right h = omega (arith, bit_at_or a b d, le-max_right (bit_at a d) (bit_at b d), bit_at-lt (bit_or a b) d)

  pub or_cases : Has (bit_or a b) d → Has a d ⊎ Has b d
  or_cases h =
      elim (ℕ_discrete (bit_at b d) 1) [
        | yes e ↦ inr e
        | no e ↦ inl (omega (arith, bit_at_or a b d, sub-add-eq-max (bit_at a d) (bit_at b d), bit_at-lt b d))
      ]

pub or-grows : (a b : ℕ) → a ≤ bit_or a b
or-grows a b = omega (arith, or_add_and a b, and_le_r a b)

pub or-low : (a b : ℕ) → a < 512 → b < 512 → bit_or a b < 512
or-low a b h k = or_lt 9 a b h k

-- ---- depths below one
bit_high : (k m d : ℕ) → m < 2 ^ k → Has m d → d < k
bit_high k m d l h = elim (dec_lt d k) [ yes y ↦ y | no z ↦ absurd (omega (arith, bit_at_above m k d l (omega arith))) ]

pub depth_low : (m d : ℕ) → m < 512 → Has m d → d ≤ 8
depth_low m d l h = let r = bit_high 9 m d l h in omega (arith, r)

-- ---- calls: the depths 0 to 7, one deeper
module _ (m d : ℕ) where
  same-caller : d < 8 → bit_at m d ≡ bit_at (m % 256) d
  same-caller l = let e : m ≡ m / 256 * 2 ^ 8 + m % 256 = omega arith in ap (λ v. bit_at v d) e ∙ bit_at_cat_low (m / 256) 8 (m % 256) d l

  pub caller-low : Has (m % 256) d → d < 8
  caller-low h = bit_high 8 (m % 256) d (omega arith) h

  pub caller-has : Has (m % 256) d → Has m d
  caller-has h = same-caller (caller-low h) ∙ h

  pub has-caller : d < 8 → Has m d → Has (m % 256) d
  has-caller l h = sym (same-caller l) ∙ h

  double-half : bit_at (m * 2) (suc d) ≡ bit_at m d
  double-half = let e : m * 2 / 2 ≡ m = omega arith in bit_at-suc (m * 2) d ∙ ap (λ v. bit_at v d) e

  pub deeper : Has m d → Has (m * 2) (suc d)
  deeper h = double-half ∙ h

pub shallower : (m d : ℕ) → Has (m * 2) d → (e : ℕ) × (d ≡ suc e) × Has m e
shallower m zero h = absurd (omega (arith, bit_at_lowest (m * 2)))
shallower m (suc d) h = (d, refl, sym (double-half m d) ∙ h)

-- ---- single depths
pub depth-zero : (m : ℕ) → m % 2 ≡ 1 → Has m 0
depth-zero m h = bit_at_lowest m ∙ h

pub zero-depth : (m : ℕ) → Has m 0 → m % 2 ≡ 1
zero-depth m h = sym (bit_at_lowest m) ∙ h

pub deepest : (m : ℕ) → 256 ≤ m → m < 512 → Has m 8
deepest m h l = omega arith

pub not-deepest : (m d : ℕ) → m < 256 → Has m d → d < 8
not-deepest m d l h = bit_high 8 m d l h

-- ---- the least depth
pub record Least (m d : ℕ) : Type 0 where
  pub here : Has m d
  pub none : (e : ℕ) → e < d → Has m e → ⊥

pub least : (m : ℕ) → 0 < m → m < 512 → Least m (trailing_zeros w16 m)
least m p l =
    let t = bit_at-trailing_zeros w16 m p (omega arith) in
    record { here = t.1; none = λ e b h. omega (arith, t.2 e b, h) }
