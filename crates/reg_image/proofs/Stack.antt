-- The eight return addresses, set to 0 one after another. Assumes nothing.
use Prim.Native.Nat.{ℕ, zero, suc}
use native.Mathlib.Omega.{arith}
use mathlib.Core.Path.{◌≡◌, refl}
use mathlib.Core.List.{List, [], ◌∷◌}
use lib.ListN.{length, set, replicate}
use Rattle.board.specs.declared.Registers.{Registers}
use Rattle.reg_image.specs.With.{with_entries}
use Rattle.reg_image.specs.Image.{registers_of}
use Rattle.reg_image.specs.Numbers.{part_length}

-- the first n set to 0
abbrev pub zeros : ℕ → List ℕ → List ℕ
zeros zero e = e
zeros (suc n) e = set (zeros n e) n 0

abbrev pub with_zeros : ℕ → Registers → Registers
with_zeros n r = with_entries (zeros n r.entries) r

pub cleared : (e : List ℕ) → length e ≡ 8 → zeros 8 e ≡ replicate 8 0
cleared [] h = absurd (omega (arith, h))
cleared (a ∷ []) h = absurd (omega (arith, h))
cleared (a ∷ b ∷ []) h = absurd (omega (arith, h))
cleared (a ∷ b ∷ c ∷ []) h = absurd (omega (arith, h))
cleared (a ∷ b ∷ c ∷ d ∷ []) h = absurd (omega (arith, h))
cleared (a ∷ b ∷ c ∷ d ∷ e ∷ []) h = absurd (omega (arith, h))
cleared (a ∷ b ∷ c ∷ d ∷ e ∷ f ∷ []) h = absurd (omega (arith, h))
cleared (a ∷ b ∷ c ∷ d ∷ e ∷ f ∷ g ∷ []) h = absurd (omega (arith, h))
cleared (a ∷ b ∷ c ∷ d ∷ e ∷ f ∷ g ∷ i ∷ []) h = refl
cleared (a ∷ b ∷ c ∷ d ∷ e ∷ f ∷ g ∷ i ∷ j ∷ l) h = absurd (omega (arith, h))

pub entries-length : (l : List ℕ) → length l ≡ 137 → length (registers_of l).entries ≡ 8
unfolding registers_of
entries-length l n = part_length l 26 8 (omega (arith, n))
