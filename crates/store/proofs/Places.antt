-- The laws of cells and records. What they share is said over the width. Assumes nothing.
use mathlib.Core.Path.{◌≡◌, refl, ap, ◌∙◌}
use mathlib.Core.Bool.{Bool, true, false}
use mathlib.Core.List.{List}
use mathlib.Core.Logic.{◌⊎◌, inl, inr, ⊎_elim}
use Prim.Native.Nat.{ℕ, suc, ◌+◌, ◌*◌, ◌≤◌, ◌<◌}
use native.Mathlib.Nat.{add-zero, suc-mul, mul-le-mul_right}
use native.Mathlib.Numerals.{add-one, add-two, add-three}
use native.Mathlib.Omega.{arith}
use borrow.Author.Tests.{ltb-true, ltb-false, le-leb}
use lib.Dec.{ltb}
use lib.IntN.{ℤ}
use lib.ListN.{length, get_or}
use lib.Seq.{sets, set-get_or}
use mir.Syntax.{w32}
use mir.Val.{SFits}
use Rattle.words.specs.Word.{word}
use Rattle.words.specs.Bytes.{four_of, four_at, word_at, put_word}
use Rattle.words.specs.Laws.{AllBytes}
use Rattle.words.specs.declared.Four.{Four}
use Rattle.words.proofs.Trips.{split_join, join_split, put_read, read_put}
use Rattle.wire.specs.Frame.{seven, command_at}
use Rattle.wire.specs.declared.Command.{Command}
use Rattle.store.specs.Store.{written, cell_bytes, cell_at, put_cell, record_bytes, record_at, put_record}
use Rattle.store.specs.Laws.{Laws}
use Rattle.store.proofs.Written.{by-room, written_in, written_out, written_length, written_before, written_after, written_at, four-sets}

-- ---- one law for every width
-- of places w wide, no other has a byte in common with the c-th
apart : (w c d k : ℕ) → (c ≡ d → ⊥) → k < w → (d * w + k < c * w) ⊎ (c * w + w ≤ d * w + k)
apart w c d k n h = by (ltb d c) refl
  where
    by : (t : Bool) → ltb d c ≡ t → (d * w + k < c * w) ⊎ (c * w + w ≤ d * w + k)
    by true e =
        let g : d * w + w ≤ c * w = rw suc-mul at (mul-le-mul_right w (ltb-true d c e)) in
        inl (omega arith)
    by false e =
        let f = ltb-false d c e in
        let l : suc c ≤ d = omega (arith, n) in
        let g : c * w + w ≤ d * w = rw suc-mul at (mul-le-mul_right w l) in
        inr (omega arith)

-- bytes w wide at the c-th place leave those of the d-th
module _ (s : List ℕ) (w c d : ℕ) (bytes : List ℕ) (full : length bytes ≡ w) (n : c ≡ d → ⊥) where
  stays : (k i : ℕ) → d * w + k ≡ i → k < w → get_or (written s (c * w) bytes) i 0 ≡ get_or s i 0
  stays k i e h =
      ⊎_elim
      (λ l. written_before s (c * w) bytes i (omega arith))
      (λ g. written_after s (c * w) bytes i (omega arith))
      (apart w c d k n h)

  four-stays : (k i : ℕ) → d * w + k ≡ i → k + 4 ≤ w → four_at (written s (c * w) bytes) i ≡ four_at s i
  four-stays k i e h =
      simp (
        stays k i e (omega arith),
        stays (k + 1) (i + 1) (omega arith) (omega arith),
        stays (k + 2) (i + 2) (omega arith) (omega arith),
        stays (k + 3) (i + 3) (omega arith) (omega arith),
      )

-- four of the bytes that were written
four-there : (s : List ℕ) (at : ℕ) (bytes : List ℕ) (k i : ℕ) → at + k ≡ i → at + length bytes ≤ length s → k + 4 ≤ length bytes → four_at (written s at bytes) i ≡ four_at bytes k
four-there s at bytes k i e r h =
    simp (
      written_at s at bytes k i e r (omega arith),
      written_at s at bytes (k + 1) (i + 1) (omega arith) r (omega arith),
      written_at s at bytes (k + 2) (i + 2) (omega arith) r (omega arith),
      written_at s at bytes (k + 3) (i + 3) (omega arith) r (omega arith),
    )

-- of a list of bytes, four at a place are those of their word
four-back : (s : List ℕ) (at : ℕ) → AllBytes s → four_of (word_at s at) ≡ four_at s at
four-back s at g = join_split (four_at s at) (record { b3 = g at; b2 = g (at + 1); b1 = g (at + 2); b0 = g (at + 3) })

-- ---- cells
module _ (s : List ℕ) (c : ℕ) where
  cell_in : c * 4 + 4 ≤ length s → cell_at s c ≡ word (word_at s (c * 4))
  unfolding cell_at
  cell_in h = simp (le-leb (c * 4 + 4) (length s) h)

  -- inside the store a cell is written as words writes a word
  pub put-cell-in : (z : ℤ) → c * 4 + 4 ≤ length s → put_cell s c z ≡ put_word s (c * 4) z
  unfolding put_cell put_word
  put-cell-in z h = written_in s (c * 4) (cell_bytes z) h ∙ four-sets s (c * 4) (four_of z)

  pub cell_length : (z : ℤ) → length (put_cell s c z) ≡ length s
  unfolding put_cell
  cell_length z = written_length s (c * 4) (cell_bytes z)

  pub cell_back : AllBytes s → put_cell s c (cell_at s c).v ≡ s
  unfolding put_cell put_word
  cell_back g =
      by-room s (c * 4) (cell_bytes (cell_at s c).v) (λ t. t ≡ s)
      (λ h. rw (cell_in h) (four-sets s (c * 4) (four_of (word_at s (c * 4))) ∙ read_put s (c * 4) g))
      refl

pub cell_read : (s : List ℕ) (c : ℕ) (z : ℤ) → c * 4 + 4 ≤ length s → SFits w32 z → cell_at (put_cell s c z) c ≡ word z
cell_read s c z h f =
    rw (cell_in (put_cell s c z) c (rw cell_length h), put-cell-in s c z h) (ap word (put_read s (c * 4) z h f))

pub cell_other : (s : List ℕ) (c d : ℕ) (z : ℤ) → (c ≡ d → ⊥) → cell_at (put_cell s c z) d ≡ cell_at s d
unfolding cell_at put_cell
cell_other s c d z n =
    simp (written_length s (c * 4) (cell_bytes z), four-stays s 4 c d (cell_bytes z) refl n 0 (d * 4) (add-zero (d * 4)) (omega arith))

-- ---- records
module _ (p : List ℕ) (a : ℕ) where
  record-in : a * 7 + 7 ≤ length p → record_at p a ≡ command_at p (a * 7)
  unfolding record_at
  record-in h = simp (le-leb (a * 7 + 7) (length p) h)

  pub record_length : (r : Command) → length (put_record p a r) ≡ length p
  unfolding put_record
  record_length r = written_length p (a * 7) (record_bytes r)

  pub record_back : AllBytes p → put_record p a (record_at p a) ≡ p
  unfolding put_record
  record_back g =
      let at = a * 7 in
      let three : Four → List ℕ = λ f. seven (get_or p at 0) (get_or p (at + 1) 0) (get_or p (at + 2) 0) f in
      by-room p at (record_bytes (record_at p a)) (λ t. t ≡ p)
      (λ h. rw (record-in h) (ap (λ (f : Four). sets p at (three f)) (four-back p (at + 3) g) ∙ simp (add-one, add-two, add-three, set-get_or)))
      refl

pub record_read : (p : List ℕ) (a : ℕ) (r : Command) → a * 7 + 7 ≤ length p → SFits w32 r.value.v → record_at (put_record p a r) a ≡ r
unfolding put_record
record_read p a r h f =
    let bytes = record_bytes r in
    let at = a * 7 in
    rw (record-in (put_record p a r) a (rw record_length h)) (simp (
      written_at p at bytes 0 at (add-zero at) h (omega arith),
      written_at p at bytes 1 (at + 1) refl h (omega arith),
      written_at p at bytes 2 (at + 2) refl h (omega arith),
      four-there p at bytes 3 (at + 3) refl h (omega arith),
      split_join r.value.v f,
    ))

pub record_other : (p : List ℕ) (a b : ℕ) (r : Command) → (a ≡ b → ⊥) → record_at (put_record p a r) b ≡ record_at p b
unfolding record_at put_record
record_other p a b r n =
    let bytes = record_bytes r in
    let at = b * 7 in
    simp (
      written_length p (a * 7) bytes,
      stays p 7 a b bytes refl n 0 at (add-zero at) (omega arith),
      stays p 7 a b bytes refl n 1 (at + 1) refl (omega arith),
      stays p 7 a b bytes refl n 2 (at + 2) refl (omega arith),
      four-stays p 7 a b bytes refl n 3 (at + 3) refl (omega arith),
    )

pub laws : Laws
laws =
    record {
      written_out = written_out;
      written_length = written_length;
      written_before = written_before;
      written_after = written_after;
      written_there = λ s at bytes k. written_at s at bytes k (at + k) refl;
      cell_length = cell_length;
      cell_read = cell_read;
      cell_other = cell_other;
      cell_back = cell_back;
      record_length = record_length;
      record_read = record_read;
      record_other = record_other;
      record_back = record_back;
    }
