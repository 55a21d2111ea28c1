-- The settings looked at, and put, one after the other. Assumes nothing.
use Prim.Native.Nat.{ℕ, ◌+◌}
use native.Mathlib.Numerals.{add-one}
use mathlib.Core.Path.{◌≡◌}
use mathlib.Core.Bool.{Bool, ◌&&◌}
use mathlib.Core.List.{List}
use lib.IntN.{ℤ, pos}
use lib.ListN.{get_or}
use Rattle.words.proofs.Bools.{and_assoc, and-true}
use Rattle.sheet.specs.Sheet.{axis}
use Rattle.values.specs.Values.{set_value}
use Rattle.sampling.specs.Sample.{place_of, setting_at, settings_in_range, settled}

module _ (zs : List ℤ) where
  -- all eight of them, as the code finds them
  pub all_found :
      {a b c d e f g h : Bool}
      → a ≡ setting_at zs 7 41 → b ≡ setting_at zs 6 40 → c ≡ setting_at zs 5 39 → d ≡ setting_at zs 4 38 → e ≡ setting_at zs 3 37
      → f ≡ setting_at zs 2 12 → g ≡ setting_at zs 1 9 → h ≡ setting_at zs 0 8
      → (((((((a && b) && c) && d) && e) && f) && g) && h) ≡ settings_in_range zs
  unfolding settings_in_range axis
  all_found p q r s t u v w = simp (p, q, r, s, t, u, v, w, and_assoc, and-true)

  -- one setting more
  pub one_more : (vs us : List ℤ) (p : ℕ) (z : ℤ) (i : ℕ) → us ≡ settled zs i vs → p ≡ place_of i → z ≡ get_or zs i (pos 0) → set_value us p z ≡ settled zs (i + 1) vs
  unfolding settled
  one_more vs us p z i e q f = rw (add-one i, e, q, f)
