-- What writing leaves, once for every number of bytes. Assumes nothing.
use mathlib.Core.Path.{◌≡◌, refl, ◌∙◌}
use mathlib.Core.Bool.{Bool, true, false}
use mathlib.Core.List.{List, [], ◌∷◌}
use Prim.Native.Nat.{ℕ, zero, suc, ◌+◌, ◌≤◌, ◌<◌}
use native.Mathlib.Numerals.{add-one, add-two, add-three}
use native.Mathlib.Omega.{arith}
use borrow.Author.Tests.{le-leb, lt-leb, leb-true, leb-false}
use lib.Dec.{leb}
use lib.ListN.{length, get_or, set, length-set}
use lib.Seq.{sets, length-sets, get_or-set_same, get_or-set_other}
use Rattle.words.specs.Bytes.{put_four}
use Rattle.words.specs.declared.Four.{Four}
use Rattle.store.specs.Store.{written, four_bytes}

-- ---- bytes that are written
before : (bytes s : List ℕ) (at i : ℕ) → i < at → get_or (sets s at bytes) i 0 ≡ get_or s i 0
before [] s at i h = refl
before (b ∷ bs) s at i h = before bs (set s at b) (suc at) i (omega arith) ∙ get_or-set_other s at i b 0 (λ e. omega arith)

after : (bytes s : List ℕ) (at i : ℕ) → at + length bytes ≤ i → get_or (sets s at bytes) i 0 ≡ get_or s i 0
after [] s at i h = refl
after (b ∷ bs) s at i h = after bs (set s at b) (suc at) i (omega arith) ∙ get_or-set_other s at i b 0 (λ e. omega arith)

there : (bytes s : List ℕ) (at k i : ℕ) → at + k ≡ i → at + length bytes ≤ length s → k < length bytes → get_or (sets s at bytes) i 0 ≡ get_or bytes k 0
there [] s at k i e r h = absurd (omega arith)
there (b ∷ bs) s at zero i e r h =
    let f : i ≡ at = omega arith in
    rw f (before bs (set s at b) (suc at) at (omega arith) ∙ get_or-set_same s at b 0 (omega arith))
there (b ∷ bs) s at (suc k) i e r h =
    there bs (set s at b) (suc at) k i (omega arith) (simp length-set (omega arith)) (omega arith)

module _ (s : List ℕ) (at : ℕ) (bytes : List ℕ) where
  pub written_in : at + length bytes ≤ length s → written s at bytes ≡ sets s at bytes
  unfolding written
  written_in h = simp (le-leb (at + length bytes) (length s) h)

  pub written_out : length s < at + length bytes → written s at bytes ≡ s
  unfolding written
  written_out h = simp (lt-leb (at + length bytes) (length s) h)

  -- what holds with the bytes written where they fit, and with none
  pub by-room : (P : List ℕ → Type 0) → (at + length bytes ≤ length s → P (sets s at bytes)) → P s → P (written s at bytes)
  by-room P p q = by (leb (at + length bytes) (length s)) refl
    where
      by : (t : Bool) → leb (at + length bytes) (length s) ≡ t → P (written s at bytes)
      by true e = let h = leb-true (at + length bytes) (length s) e in rw (written_in h) (p h)
      by false e = rw (written_out (leb-false (at + length bytes) (length s) e)) q

  pub written_length : length (written s at bytes) ≡ length s
  written_length = by-room (λ t. length t ≡ length s) (λ h. length-sets s at bytes) refl

  pub written_before : (i : ℕ) → i < at → get_or (written s at bytes) i 0 ≡ get_or s i 0
  written_before i h = by-room (λ t. get_or t i 0 ≡ get_or s i 0) (λ g. before bytes s at i h) refl

  pub written_after : (i : ℕ) → at + length bytes ≤ i → get_or (written s at bytes) i 0 ≡ get_or s i 0
  written_after i h = by-room (λ t. get_or t i 0 ≡ get_or s i 0) (λ g. after bytes s at i h) refl

  -- the k-th byte stands at i
  pub written_at : (k i : ℕ) → at + k ≡ i → at + length bytes ≤ length s → k < length bytes → get_or (written s at bytes) i 0 ≡ get_or bytes k 0
  written_at k i e r h = rw (written_in r) (there bytes s at k i e r h)

-- four bytes are written as words writes them
pub four-sets : (s : List ℕ) (at : ℕ) (f : Four) → sets s at (four_bytes f) ≡ put_four s at f
four-sets s at f = simp (add-one, add-two, add-three)
