-- What stands in a part of a list stands in the list, from the part's place on. Assumes nothing.
use mathlib.Core.Path.{◌≡◌, ap, ◌∙◌}
use mathlib.Core.List.{List}
use Prim.Native.Nat.{ℕ, ◌+◌, ◌≤◌, ◌<◌}
use native.Mathlib.Nat.{add-zero, add_assoc}
use native.Mathlib.Omega.{arith}
use lib.ListN.{get_or, take, drop}
use lib.Seq.{get_or-take, get_or-drop}
use Rattle.words.specs.Bytes.{word_at}

module _ (s : List ℕ) (at n : ℕ) where
  pub byte-within : (i : ℕ) → i < n → get_or (take n (drop at s)) i 0 ≡ get_or s (at + i) 0
  byte-within i h = get_or-take n (drop at s) i 0 h ∙ get_or-drop at s i 0

  pub byte-part : 1 ≤ n → get_or (take n (drop at s)) 0 0 ≡ get_or s at 0
  byte-part h = byte-within 0 h ∙ ap (λ (i : ℕ). get_or s i 0) (add-zero at)

  pub word-within : (i : ℕ) → i + 4 ≤ n → word_at (take n (drop at s)) i ≡ word_at s (at + i)
  word-within i h =
      simp (
        byte-within i (omega arith),
        byte-within (i + 1) (omega arith),
        byte-within (i + 2) (omega arith),
        byte-within (i + 3) (omega arith),
        add_assoc at i 1,
        add_assoc at i 2,
        add_assoc at i 3,
      )

  pub word-part : 4 ≤ n → word_at (take n (drop at s)) 0 ≡ word_at s at
  word-part h = word-within 0 h ∙ ap (word_at s) (add-zero at)
