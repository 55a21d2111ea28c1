-- A number of a group's span that is none of the group's has no place. Assumes nothing.
use Prim.Native.Nat.{ℕ, ◌+◌, ◌≤◌, ◌<◌}
use native.Mathlib.Omega.{arith}
use mathlib.Core.Path.{◌≡◌, refl, sym, ap, ◌∙◌}
use mathlib.Core.Bool.{Bool, true, false}
use mathlib.Core.List.{List, [], ◌∷◌}
use borrow.Author.Tests.{ne_eqb, le-leb, lt-ltb}
use lib.ListN.{length}
use Rattle.words.specs.Word.{pick}
use Rattle.words.proofs.Bools.{is_T}
use Rattle.rows.specs.declared.Row.{Row}
use Rattle.sheet.specs.Places.{place_in, axis_place}
use Rattle.sheet.specs.Sheet.{axis, rwe_rows, rw_rows, r_rows}
use Rattle.sheet.proofs.Keys.{NoneOf, none_of}
use Rattle.places.specs.Groups.{in_span, place_in_span}

module _ (low next : ℕ) where
  -- the numbers of the rows of a group
  abbrev pub numbers_in : List Row → List ℕ
  numbers_in [] = []
  numbers_in (x ∷ xs) = pick (in_span low next x.number) (x.number ∷ numbers_in xs) (numbers_in xs)

  module _ (n : ℕ) where
    -- a row outside the span has another number
    not-this : (k : ℕ) (ks : List ℕ) (b : Bool) → in_span low next k ≡ b → in_span low next n ≡ true → NoneOf n (pick b (k ∷ ks) ks) → (n ≡ k → ⊥) × NoneOf n ks
    unfolding NoneOf
    not-this k ks true e h r = r
    not-this k ks false e h r = (λ q. absurd (is_T false (sym e ∙ ap (in_span low next) (sym q) ∙ h)), r)

    pub no-place-between : (t : List Row) → in_span low next n ≡ true → NoneOf n (numbers_in t) → place_in t n ≡ length t
    no-place-between [] h r = refl
    no-place-between (x ∷ xs) h r =
        let s = not-this x.number (numbers_in xs) (in_span low next x.number) refl h r in
        rw (ne_eqb n x.number s.0, no-place-between xs h s.1) (omega arith)

    -- so the last arm of a group's `match` is right
    pub no-place-in-span : NoneOf n (numbers_in axis) → place_in_span low next n ≡ 43
    unfolding axis rwe_rows rw_rows r_rows
    no-place-in-span r = by (in_span low next n) refl
      where
        by : (b : Bool) → in_span low next n ≡ b → pick b (place_in axis n) 43 ≡ 43
        by true e = no-place-between axis e r
        by false e = refl

-- a group has the place of its numbers
pub its-place : (low next n : ℕ) → low ≤ n → n < next → place_in_span low next n ≡ axis_place n
its-place low next n l h = simp (le-leb low n l, lt-ltb n next h)

-- the last number is 240
pub past-last : (n : ℕ) → 240 < n → axis_place n ≡ 43
unfolding axis rwe_rows rw_rows r_rows
past-last n h =
    no-place-between 241 (n + 1) n axis (simp (le-leb 241 n h, lt-ltb n (n + 1) (omega arith))) (none_of n (numbers_in 241 (n + 1) axis) tt)
