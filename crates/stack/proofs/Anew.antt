-- Entries made anew, one by one. Assumes nothing.
use mathlib.Core.Path.{◌≡◌, refl, sym, ap, subst, ◌∙◌}
use mathlib.Core.List.{List, [], ◌∷◌}
use Prim.Native.Nat.{ℕ, zero, suc, ◌<◌}
use native.Mathlib.Omega.{arith}
use borrow.Author.Tests.{eqb-true, eqb-false}
use lib.Dec.{eqb}
use lib.ListN.{length, get_or, set, length-set}
use lib.Seq.{get_or-set_same, get_or-set_other}
use Rattle.words.specs.Word.{pick}
use Rattle.words.proofs.Bools.{either}

-- the list of so many numbers
abbrev listed : (ℕ → ℕ) → ℕ → List ℕ
listed f zero = []
listed f (suc n) = f zero ∷ listed (λ i. f (suc i)) n

listed_same : (l : List ℕ) (f : ℕ → ℕ) → ((i : ℕ) → i < length l → f i ≡ get_or l i 0) → listed f (length l) ≡ l
listed_same [] f h = refl
listed_same (x ∷ xs) f h =
    ap (λ y. y ∷ listed (λ i. f (suc i)) (length xs)) (h zero (omega arith))
    ∙ ap (λ l. x ∷ l) (listed_same xs (λ i. f (suc i)) (λ i b. h (suc i) (omega arith)))

module _ (e : List ℕ) (d a : ℕ) where
  abbrev entry : ℕ → ℕ
  entry i = pick (eqb i d) a (get_or e i 0)

  entry_set : (i : ℕ) → i < length (set e d a) → entry i ≡ get_or (set e d a) i 0
  entry_set i h =
      either (λ x. x ≡ get_or (set e d a) i 0) (eqb i d) a (get_or e i 0)
      (λ t. let q : i ≡ d = eqb-true i d t in rw q (sym (get_or-set_same e d a 0 (omega (arith, length-set e d a)))))
      (λ f. sym (get_or-set_other e d i a 0 (eqb-false i d f)))

  pub anew : length e ≡ 8
      → entry 0 ∷ entry 1 ∷ entry 2 ∷ entry 3 ∷ entry 4 ∷ entry 5 ∷ entry 6 ∷ entry 7 ∷ [] ≡ set e d a
  anew l = subst (λ n. listed entry n ≡ set e d a) (length-set e d a ∙ l) (listed_same (set e d a) entry entry_set)
