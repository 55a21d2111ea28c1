-- A place of an image written: what is read there and elsewhere. Assumes nothing.
use Prim.Native.Nat.{ℕ, zero, suc, ◌+◌, ◌-◌, ◌≤◌, ◌<◌}
use native.Mathlib.Omega.{arith}
use native.Mathlib.Nat.{le_of_suc-le-suc, zero-add, suc-add}
use mathlib.Core.Path.{◌≡◌, refl, sym, ap, ◌∙◌}
use mathlib.Core.Bool.{Bool, true, false, ◌||◌}
use mathlib.Core.List.{List, [], ◌∷◌, ◌++◌, map}
use borrow.Author.Tests.{ltb-true, leb-true, eqb-true, eqb-false}
use lib.Dec.{eqb, ltb, leb}
use lib.IntN.{pos}
use lib.ListN.{length, get_or, set, take, drop, length-drop, length-take, length-map}
use lib.Seq.{get_or-set_same, get_or-set_other, drop-set-lt, drop-set-add, take-set-le, take-set-lt, get_or-take, get_or-drop}
use Rattle.words.specs.Word.{pick, of_bits}
use Rattle.words.proofs.Bools.{or_else}
use Rattle.reg_image.specs.Image.{part, words, Kind, number}

-- ---- one number
pub read : (l : List ℕ) (p j v : ℕ) → ltb p (length l) ≡ true → get_or (set l p v) j 0 ≡ pick (eqb p j) v (get_or l j 0)
read l p j v h = by (eqb p j) refl
  where
    by : (t : Bool) → eqb p j ≡ t → get_or (set l p v) j 0 ≡ pick t v (get_or l j 0)
    by true e = ap (λ (k : ℕ). get_or (set l p v) k 0) (sym (eqb-true p j e)) ∙ get_or-set_same l p v 0 (ltb-true p (length l) h)
    by false e = get_or-set_other l p j v 0 (λ q. eqb-false p j e (sym q))

-- ---- numbers in a row
pub part-before : (l : List ℕ) (p v from n : ℕ) → p < from → part (set l p v) from n ≡ part l from n
unfolding part
part-before l p v from n h = ap (take n) (drop-set-lt from l p v h)

apart : (l : List ℕ) (i v from n : ℕ) → n ≤ i → part (set l (from + i) v) from n ≡ part l from n
unfolding part
apart l i v from n h = ap (take n) (drop-set-add from l i v) ∙ take-set-le n (drop from l) i v h

pub part_at : (l : List ℕ) (i v from n : ℕ) → i < n → part (set l (from + i) v) from n ≡ set (part l from n) i v
unfolding part
part_at l i v from n h = ap (take n) (drop-set-add from l i v) ∙ take-set-lt n (drop from l) i v h

pub part_out : (l : List ℕ) (p v from n : ℕ) → ltb p from || leb (from + n) p ≡ true → part (set l p v) from n ≡ part l from n
part_out l p v from n e =
    or_else (ltb p from) (leb (from + n) p) e
    (λ h. part-before l p v from n (ltb-true p from h))
    (λ h. let k : from + n ≤ p = leb-true (from + n) p h in
    let q : p ≡ from + (p - from) = omega arith in
    ap (λ (j : ℕ). part (set l j v) from n) q ∙ apart l (p - from) v from n (omega arith))

pub part-read : (l : List ℕ) (i from n : ℕ) → i < n → get_or (part l from n) i 0 ≡ get_or l (from + i) 0
unfolding part
part-read l i from n h = get_or-take n (drop from l) i 0 h ∙ get_or-drop from l i 0

pub part_length : (l : List ℕ) (from n : ℕ) → from + n ≤ length l → length (part l from n) ≡ n
unfolding part
part_length l from n h = simp (length-take, length-drop) (omega arith)

-- ---- words in a row
map-set : {A B : Type 0} (f : A → B) (l : List A) (i : ℕ) (a : A) → map f (set l i a) ≡ set (map f l) i (f a)
map-set f [] i a = refl
map-set f (x ∷ l) zero a = refl
map-set {B = B} f (x ∷ l) (suc i) a = ap (λ (r : List B). f x ∷ r) (map-set f l i a)

pub words-out : (l : List ℕ) (p v from n : ℕ) → ltb p from || leb (from + n) p ≡ true → words (set l p v) from n ≡ words l from n
unfolding words
words-out l p v from n e = ap (map of_bits) (part_out l p v from n e)

pub words-at : (l : List ℕ) (i v from n : ℕ) → i < n → words (set l (from + i) v) from n ≡ set (words l from n) i (of_bits v)
unfolding words
words-at l i v from n h = ap (map of_bits) (part_at l i v from n h) ∙ map-set of_bits (part l from n) i v

map_read : (l : List ℕ) (i : ℕ) → get_or (map of_bits l) i (pos 0) ≡ of_bits (get_or l i 0)
map_read [] i = refl
map_read (n ∷ l) zero = refl
map_read (n ∷ l) (suc i) = map_read l i

pub words-read : (l : List ℕ) (i from n : ℕ) → i < n → get_or (words l from n) i (pos 0) ≡ of_bits (get_or l (from + i) 0)
unfolding words
words-read l i from n h = map_read (part l from n) i ∙ ap of_bits (part-read l i from n h)

pub words-length : (l : List ℕ) (from n : ℕ) → from + n ≤ length l → length (words l from n) ≡ n
unfolding words
words-length l from n h = length-map (part l from n) of_bits ∙ part_length l from n h

-- ---- one list behind another
pub set-behind : {A : Type 0} (xs ys : List A) (i : ℕ) (a : A) → set (xs ++ ys) (length xs + i) a ≡ xs ++ set ys i a
set-behind [] ys i a = simp zero-add
set-behind {A = A} (x ∷ xs) ys i a = simp suc-add (ap (λ (r : List A). x ∷ r) (set-behind xs ys i a))

-- a place behind those of a list of kinds takes every number
pub behind : (ks : List Kind) (p : ℕ) → length ks ≤ p → get_or ks p number ≡ number
behind [] p h = refl
behind (k ∷ ks) zero h = absurd (omega arith)
behind (k ∷ ks) (suc p) h = behind ks p (le_of_suc-le-suc h)
