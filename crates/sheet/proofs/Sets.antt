-- A row with the mask of a set allows just the values of the set, one with the mask of all ones its whole range. Assumes
-- nothing.
use Prim.Native.Nat.{ℕ, ◌+◌, ◌<◌, ◌/◌, ◌%◌, ◌^◌}
use native.Mathlib.Omega.{arith}
use mathlib.Core.Path.{◌≡◌, refl}
use mathlib.Core.Bool.{Bool, true, false}
use mathlib.Core.List.{List}
use borrow.Author.Tests.{leb-true, leb-false, ltb-true}
use lib.Dec.{T, eqb, ltb, leb, leb-zero}
use lib.IntN.{ℤ, pos, negsuc}
use Rattle.words.specs.Word.{word, pick, bits_of}
use Rattle.words.proofs.Bools.{is_true, and-true}
use Rattle.order.specs.Order.{in_range}
use Rattle.sheet.specs.Laws.{one_of}
use Rattle.rows.specs.Row.{any_value, marked, allowed}
use Rattle.rows.specs.declared.Row.{Row}
use Rattle.rows.specs.declared.Access.{Access}
use Rattle.sheet.specs.Places.{all_below}
use Rattle.sheet.proofs.Below.{below}

abbrev same : Bool → Bool → Bool
same true b = b
same false true = false
same false false = true

same-eq : (a b : Bool) → T (same a b) → a ≡ b
same-eq true true t = refl
same-eq true false t = absurd t
same-eq false true t = absurd t
same-eq false false t = refl

module _ (n : ℕ) (a : Access) (high mask : ℕ) (d : ℤ) (xs : List ℕ) where
  abbrev row : Row
  row = record { number = n; access = a; low = word (pos 0); high = word (pos high); standard = word d; mask = mask }

  abbrev right : ℕ → Bool
  right k = same (allowed row (pos k)) (one_of xs (pos k))

  -- from a test up to the highest, and none of the set above it
  pub set-row : T (all_below right (high + 1)) → ((k : ℕ) → high < k → one_of xs (pos k) ≡ false) → (z : ℤ) → allowed row z ≡ one_of xs z
  unfolding allowed
  set-row t above (negsuc k) = refl
  set-row t above (pos k) = go (leb k high) refl
    where
      go : (b : Bool) → leb k high ≡ b → allowed row (pos k) ≡ one_of xs (pos k)
      go true e =
          let h = leb-true k high e in
          same-eq (allowed row (pos k)) (one_of xs (pos k)) (below right (high + 1) t k (omega arith))
      go false e = simp (leb-zero k, e, above k (leb-false k high e))

-- a bit of all ones
one : ℕ → Bool
one k = eqb (any_value / 2 ^ k % 2) 1

any-marked : (z : ℤ) → marked any_value z ≡ true
unfolding one
any-marked z = go (ltb (bits_of z) 32) refl
  where
    go : (b : Bool) → ltb (bits_of z) 32 ≡ b → pick b (one (bits_of z)) true ≡ true
    go true e = is_true (one (bits_of z)) (below one 32 tt (bits_of z) (ltb-true (bits_of z) 32 e))
    go false e = refl

pub whole_range : (r : Row) (z : ℤ) → r.mask ≡ any_value → allowed r z ≡ in_range r.low.v r.high.v z
unfolding allowed
whole_range r z e = simp (e, any-marked z, and-true (in_range r.low.v r.high.v z))
