-- What holds of places in a row, place by place. Assumes nothing.
use Prim.Native.Nat.{ℕ, zero, suc, ◌+◌, ◌≤◌, ◌<◌}
use native.Mathlib.Numerals.{add-one}
use native.Mathlib.Omega.{arith}
use mathlib.Core.Path.{◌≡◌, refl, ap, ◌∙◌}
use mathlib.Core.Bool.{Bool, true, ◌&&◌}
use mathlib.Core.List.{List, [], ◌∷◌, map}
use lib.IntN.{ℤ}
use lib.ListN.{length, get_or, drop}
use lib.Seq.{drop-cons}
use Rattle.words.specs.Word.{of_bits}
use Rattle.ranges.specs.Range.{every}
use Rattle.reg_image.specs.Image.{part, words, Kind, takes, kinds, all, shaped}

-- ---- each from a place on is of its kind
abbrev pub kinds_at : List Kind → List ℕ → ℕ → Bool
kinds_at [] l i = true
kinds_at (k ∷ ks) l i = takes k (get_or l i 0) && kinds_at ks l (i + 1)

kinds-at : (ks : List Kind) (l : List ℕ) (i : ℕ) → i + length ks ≤ length l → all ks (drop i l) ≡ kinds_at ks l i
kinds-at [] l i h = refl
kinds-at (k ∷ ks) l i h =
    let g : i < length l = omega arith in
    rw (drop-cons l i 0 g, ← add-one i, kinds-at ks l (i + 1) (omega arith))

pub shaped-places : (l : List ℕ) → length l ≡ 137 → shaped l ≡ kinds_at kinds l 0
unfolding shaped
shaped-places l n = kinds-at kinds l 0 (omega (arith, n))

-- ---- each of n from a place on passes a test
abbrev pub every_at : (ℕ → Bool) → List ℕ → ℕ → ℕ → Bool
every_at f l i zero = true
every_at f l i (suc n) = f (get_or l i 0) && every_at f l (i + 1) n

pub every-part : (f : ℕ → Bool) (l : List ℕ) (i n : ℕ) → i + n ≤ length l → every f (part l i n) ≡ every_at f l i n
unfolding part
every-part f l i zero h = refl
every-part f l i (suc n) h =
    let g : i < length l = omega arith in
    rw (drop-cons l i 0 g, ← add-one i, every-part f l (i + 1) n (omega arith))

every_map : (f : ℤ → Bool) (l : List ℕ) → every f (map of_bits l) ≡ every (λ n. f (of_bits n)) l
every_map f [] = refl
every_map f (n ∷ l) = ap (λ (b : Bool). f (of_bits n) && b) (every_map f l)

pub every-words : (f : ℤ → Bool) (l : List ℕ) (i n : ℕ) → i + n ≤ length l → every f (words l i n) ≡ every_at (λ k. f (of_bits k)) l i n
unfolding words
every-words f l i n h = every_map f (part l i n) ∙ every-part (λ k. f (of_bits k)) l i n h
