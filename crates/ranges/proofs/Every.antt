-- Tests that hold of every element of a list. Assumes nothing.
use Prim.Native.Nat.{ℕ, zero, suc}
use mathlib.Core.Path.{◌≡◌, refl, ap}
use mathlib.Core.Bool.{Bool, true, ◌&&◌}
use mathlib.Core.List.{List, [], ◌∷◌}
use lib.ListN.{get_or, set}
use Rattle.std.specs.List.{list_all}
use Rattle.words.proofs.Bools.{each}
use Rattle.ranges.specs.Range.{every}

-- ---- a test of every element
module _ {A : Type 0} (f : A → Bool) where
  -- ---- where one is set, where one is read, and where it is known of each
  pub every_set : (l : List A) (i : ℕ) (a : A) → every f l ≡ true → f a ≡ true → every f (set l i a) ≡ true
  every_set [] i a h t = refl
  every_set (x ∷ xs) zero a h t = simp (t, (each (f x) (every f xs) h).1)
  every_set (x ∷ xs) (suc i) a h t =
      let g = each (f x) (every f xs) h in
      simp (g.0, every_set xs i a g.1 t)

  pub every_get : (l : List A) (i : ℕ) (d : A) → every f l ≡ true → f d ≡ true → f (get_or l i d) ≡ true
  every_get [] i d h t = t
  every_get (x ∷ xs) zero d h t = (each (f x) (every f xs) h).0
  every_get (x ∷ xs) (suc i) d h t = every_get xs i d (each (f x) (every f xs) h).1 t

  pub every-each : (l : List A) (d : A) → ((i : ℕ) → f (get_or l i d) ≡ true) → every f l ≡ true
  every-each [] d h = refl
  every-each (x ∷ xs) d h = simp (h 0, every-each xs d (λ i. h (suc i)))

  -- ---- as the library says it
  pub every-is : (l : List A) → list_all f l ≡ every f l
  every-is [] = refl
  every-is (x ∷ xs) = ap (λ (t : Bool). f x && t) (every-is xs)
