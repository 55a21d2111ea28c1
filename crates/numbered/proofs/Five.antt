-- Five numbers in the five places of a list. Assumes nothing.
use mathlib.Core.Path.{◌≡◌, refl}
use mathlib.Core.List.{[], List, ◌∷◌}
use native.Mathlib.Omega.{arith}
use lib.IntN.{ℤ}
use lib.ListN.{length}
use lib.Seq.{sets}

-- five numbers put over five others
pub over : (a b c d e v w x y z : ℤ) (l : List ℤ) → sets (sets l 0 (a ∷ b ∷ c ∷ d ∷ e ∷ [])) 0 (v ∷ w ∷ x ∷ y ∷ z ∷ []) ≡ sets l 0 (v ∷ w ∷ x ∷ y ∷ z ∷ [])
over a b c d e v w x y z [] = refl
over a b c d e v w x y z (f ∷ []) = refl
over a b c d e v w x y z (f ∷ g ∷ []) = refl
over a b c d e v w x y z (f ∷ g ∷ h ∷ []) = refl
over a b c d e v w x y z (f ∷ g ∷ h ∷ i ∷ []) = refl
over a b c d e v w x y z (f ∷ g ∷ h ∷ i ∷ j ∷ l) = refl

-- .. are the whole of a list of five
pub whole : (a b c d e : ℤ) (l : List ℤ) → length l ≡ 5 → a ∷ b ∷ c ∷ d ∷ e ∷ [] ≡ sets l 0 (a ∷ b ∷ c ∷ d ∷ e ∷ [])
whole a b c d e [] p = absurd (omega arith)
whole a b c d e (f ∷ []) p = absurd (omega arith)
whole a b c d e (f ∷ g ∷ []) p = absurd (omega arith)
whole a b c d e (f ∷ g ∷ h ∷ []) p = absurd (omega arith)
whole a b c d e (f ∷ g ∷ h ∷ i ∷ []) p = absurd (omega arith)
whole a b c d e (f ∷ g ∷ h ∷ i ∷ j ∷ []) p = refl
whole a b c d e (f ∷ g ∷ h ∷ i ∷ j ∷ k ∷ l) p = absurd (omega arith)
