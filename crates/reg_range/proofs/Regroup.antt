-- The tests in the order of the code and in that of the contract. Assumes nothing.
use Prim.Native.Nat.{ℕ}
use mathlib.Core.Path.{◌≡◌, refl, ap, ◌∙◌}
use mathlib.Core.Bool.{Bool, true, false, ◌&&◌}
use Rattle.words.proofs.Bools.{and_assoc, and-true}
use Rattle.sheet.specs.Places.{all_below}
use Rattle.values.specs.Values.{eight}

pub and-false : (a : Bool) → a && false ≡ false
and-false true = refl
and-false false = refl

-- ---- a wider test before the exact one decides nothing
pub most-filled :
    (x y w k l m n o p q a b c d v e g h s t : Bool) → (s ≡ true → w ≡ true) → (t ≡ true → v ≡ true)
    → (x && y && (w && k && l && m && n && o && p && q) && (a && b && c && d && v && e && g && h)) && s && t ≡ x && y && (s && k && l && m && n && o && p && q) && (a && b && c && d && t && e && g && h)
most-filled x y w k l m n o p q a b c d v e g h true true i j = simp (i refl, j refl, and-true)
most-filled x y w k l m n o p q a b c d v e g h true false i j = simp (and-false)
most-filled x y w k l m n o p q a b c d v e g h false t i j = simp (and-false)

pub ends-filled :
    (a b c d e w g h s z i j k l : Bool) → (s ≡ true → w ≡ true)
    → (a && b && c && d && e && w && g && h) && s && z && i && j && k && l ≡ (a && b && c && d && e && s && g && h) && z && i && j && k && l
ends-filled a b c d e w g h true z i j k l m = simp (m refl, and-true)
ends-filled a b c d e w g h false z i j k l m = simp (and-false)

-- ---- the parts put in the sheet's order
regroup :
    (p x w a g b z v : Bool)
    → ((p && x) && w) && ((a && g) && (b && (z && v))) ≡ p && (a && (b && (x && (z && (w && (v && g))))))
regroup false x w a g b z v = refl
regroup true x w false g b z v = simp (and-false)
regroup true x w true g false z v = simp (and-false)
regroup true x w true g true false v = simp (and-false)
regroup true x w true g true true false = simp (and-false)
regroup true x w true g true true true = simp (and-true, and_assoc)

module _ (f : ℕ → Bool) where
  abbrev most : Bool
  most = eight f 34 && eight f 26 && eight f 18 && eight f 10

  abbrev ends : Bool
  ends = (f 46 && f 6 && f 5 && f 4 && f 3 && f 2 && f 1 && f 0) && f 45 && f 42 && f 9 && f 8 && f 7

  apart : ends ≡ (f 46 && (f 6 && f 5 && f 4 && f 3 && f 2 && f 1 && f 0)) && (f 45 && (f 42 && (f 9 && f 8 && f 7)))
  apart = simp (and_assoc)

  whole : (p : Bool) → ((p && (f 44 && f 43)) && most) && ends ≡ p && all_below f 47
  whole p =
      ap (λ (t : Bool). ((p && (f 44 && f 43)) && most) && t) apart
      ∙ regroup p (f 44 && f 43) most (f 46) (f 6 && f 5 && f 4 && f 3 && f 2 && f 1 && f 0) (f 45) (f 42) (f 9 && f 8 && f 7)
      ∙ simp (and_assoc, and-true)

  pub found :
      (s c d n o i a : Bool) {x y z v : Bool}
      → x ≡ s && c && d && n && o && i && a && f 44 && f 43
      → y ≡ eight f 34 && eight f 26 && eight f 18 && eight f 10
      → z ≡ (f 46 && f 6 && f 5 && f 4 && f 3 && f 2 && f 1 && f 0) && f 45 && f 42 && f 9 && f 8 && f 7
      → all_below f 47 ≡ v
      → (x && y) && z ≡ s && ((c && d && n) && (o && i && a) && v)
  found s c d n o i a {x} {y} {z} {v} p q r h =
      let k : Bool = s && c && d && n && o && i && a in
      ap (λ (t : Bool). (t && y) && z) (p ∙ and_assoc k (f 44) (f 43))
      ∙ ap (λ (t : Bool). ((k && (f 44 && f 43)) && t) && z) q
      ∙ ap (λ (t : Bool). ((k && (f 44 && f 43)) && most) && t) r
      ∙ whole k
      ∙ ap (λ (t : Bool). k && t) h
      ∙ simp (and_assoc)
