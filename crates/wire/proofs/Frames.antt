-- The laws of frames. Assumes nothing.
use mathlib.Core.Path.{◌≡◌, refl, sym, ap, ◌∙◌}
use mathlib.Core.Bool.{Bool, true, false}
use mathlib.Core.List.{List, [], ◌∷◌}
use Prim.Native.Nat.{ℕ, zero, suc, ◌+◌, ◌%◌, ◌<◌}
use native.Mathlib.Nat.{add_comm, add-mod-mod}
use native.Mathlib.Omega.{arith}
use borrow.Author.Tests.{eq-eqb, ne_eqb, eqb-true, ltb-true, ltb-false}
use lib.Dec.{eqb, ltb}
use lib.IntN.{ℤ}
use lib.ListN.{length, get_or, set, take, length-set, length-take}
use lib.Seq.{get_or-set_other, get_or-set_same, get_or-take, take-set-lt, take-set-le}
use mir.Syntax.{w32}
use mir.Val.{SFits}
use Rattle.words.specs.declared.Four.{Four}
use Rattle.words.specs.Bytes.{four_of, four_at, word_at}
use Rattle.words.specs.Laws.{AllBytes}
use Rattle.words.proofs.Bools.{each, same_test}
use Rattle.words.proofs.Trips.{split_join, join_split}
use Rattle.checksum.specs.Checksum.{total, checksum, right_frame}
use Rattle.wire.specs.Frame.{seven, summed, frame, written_status}
use Rattle.wire.specs.Laws.{Changed, Laws}
use Rattle.std.specs.Prelude.{Result, Ok, Err}
use Rattle.wire.specs.declared.WrongLength.{WrongLength}
use Rattle.checksum.proofs.Nine.{nine}
use Rattle.wire.proofs.Parts.{command-part}

pub made_right : (a b c d : ℕ) (v : ℤ) → right_frame (frame a b c d v) ≡ true
unfolding right_frame frame
made_right a b c d v = let sum = checksum (a ∷ seven b c d (four_of v)) in eq-eqb sum sum refl

pub made_value : (a b c d : ℕ) (v : ℤ) → SFits w32 v → word_at (frame a b c d v) 4 ≡ v
unfolding frame
made_value a b c d v f = split_join v f

-- what a right frame is
pub right-parts : (s : List ℕ) → right_frame s ≡ true → (length s ≡ 9) × (checksum (take 8 s) ≡ get_or s 8 0)
unfolding right_frame
right-parts s h =
    let p = each (eqb (length s) 9) (eqb (checksum (take 8 s)) (get_or s 8 0)) h in
    (eqb-true (length s) 9 p.0, eqb-true (checksum (take 8 s)) (get_or s 8 0) p.1)

-- a list of the right length is right where its sum is
right_by : (s : List ℕ) → length s ≡ 9 → right_frame s ≡ eqb (checksum (take 8 s)) (get_or s 8 0)
unfolding right_frame
right_by s h = simp (eq-eqb (length s) 9 h)

abbrev Made : List ℕ → Type 0
Made l = AllBytes l → checksum (take 8 l) ≡ get_or l 8 0 → frame (get_or l 0 0) (get_or l 1 0) (get_or l 2 0) (get_or l 3 0) (word_at l 4) ≡ l

made : (a b c d e f g h i : ℕ) → Made (a ∷ b ∷ c ∷ d ∷ e ∷ f ∷ g ∷ h ∷ i ∷ [])
unfolding frame
made a b c d e f g h i k r =
    let v = four_at (a ∷ b ∷ c ∷ d ∷ e ∷ f ∷ g ∷ h ∷ i ∷ []) 4 in
    ap (λ (w : Four). summed (a ∷ seven b c d w)) (join_split v (record { b3 = k 4; b2 = k 5; b1 = k 6; b0 = k 7 }))
    ∙ ap (λ (n : ℕ). a ∷ b ∷ c ∷ d ∷ e ∷ f ∷ g ∷ h ∷ n ∷ []) r

pub right_made : (s : List ℕ) → AllBytes s → right_frame s ≡ true → frame (get_or s 0 0) (get_or s 1 0) (get_or s 2 0) (get_or s 3 0) (word_at s 4) ≡ s
right_made s g r = nine Made made s (right-parts s r).0 g (right-parts s r).1

-- ---- changed bytes
sum-set : (l : List ℕ) (i b : ℕ) → i < length l → total (set l i b) + get_or l i 0 ≡ total l + b
sum-set [] i b h = absurd (omega arith)
sum-set (x ∷ xs) zero b h = omega arith
sum-set (x ∷ xs) (suc i) b h = let e = sum-set xs i b (omega arith) in omega arith

-- the sum beside the checksum, of nine bytes of which one is set
sum-eight : (s : List ℕ) (i b : ℕ) → length s ≡ 9 → i < 8 → total (take 8 (set s i b)) + get_or s i 0 ≡ total (take 8 s) + b
sum-eight s i b n h =
    let k : i < length (take 8 s) = simp length-take (omega arith) in
    rw (take-set-lt 8 s i b h, ← get_or-take 8 s i 0 h) (sum-set (take 8 s) i b k)

pub one_changed : (s : List ℕ) (i b : ℕ) → Changed s i b → right_frame (set s i b) ≡ false
one_changed s i b k = right_by (set s i b) (length-set s i b ∙ p.0) ∙ by (ltb i 8) refl
  where
    p : (length s ≡ 9) × (checksum (take 8 s) ≡ get_or s 8 0)
    p = right-parts s k.right

    by : (t : Bool) → ltb i 8 ≡ t → eqb (checksum (take 8 (set s i b))) (get_or (set s i b) 8 0) ≡ false
    by true h =
        let g = ltb-true i 8 h in
        let e = sum-eight s i b p.0 g in
        rw (get_or-set_other s i 8 b 0 (λ q. omega arith)) (ne_eqb (checksum (take 8 (set s i b))) (get_or s 8 0) (λ q. k.other (omega (arith, k.bytes i, k.byte, p.1, e, q))))
    by false h =
        let g = ltb-false i 8 h in
        let e : i ≡ 8 = omega (arith, k.place) in
        let last : get_or (set s i b) 8 0 ≡ b = ap (λ (j : ℕ). get_or (set s i b) j 0) (sym e) ∙ get_or-set_same s i b 0 (omega (arith, p.0)) in
        rw (take-set-le 8 s i b g, last)
        (ne_eqb (checksum (take 8 s)) b (λ q. k.other (ap (λ (j : ℕ). get_or s j 0) e ∙ sym p.1 ∙ q)))

pub two_changed : (s : List ℕ) (i j b c : ℕ) → right_frame s ≡ true → i < 8 → j < 8 → (j ≡ i → ⊥) → right_frame (set (set s i b) j c) ≡ eqb ((b + c) % 256) ((get_or s i 0 + get_or s j 0) % 256)
two_changed s i j b c r hi hj n =
    let p = right-parts s r in
    let t = set s i b in
    let l : length t ≡ 9 = length-set s i b ∙ p.0 in
    let e = sum-eight s i b p.0 hi in
    let f = rw (get_or-set_other s i j b 0 n) at (sum-eight t j c l hj) in
    right_by (set t j c) (length-set t j c ∙ l)
    ∙ rw (get_or-set_other t j 8 c 0 (λ q. omega arith), get_or-set_other s i 8 b 0 (λ q. omega arith))
    (same_test ((b + c) % 256) ((get_or s i 0 + get_or s j 0) % 256) (checksum (take 8 (set t j c))) (get_or s 8 0) (λ q. omega (arith, p.1, e, f, q)) (λ q. omega (arith, p.1, e, f, q)))

-- b and s have the sum of t and x, modulo 256
carried : (t x u b s : ℕ) → t + x ≡ u + b → u % 256 ≡ s → (b + s) % 256 ≡ (t + x) % 256
carried t x u b s e r = rw (e, ← r, add-mod-mod b u 256, add_comm b u)

shifted : (t x c : ℕ) → c < 256 → (x + c) % 256 ≡ (t + x) % 256 → t % 256 ≡ c
shifted t x c h e = omega arith

unshifted : (t x c : ℕ) → t % 256 ≡ c → (x + c) % 256 ≡ (t + x) % 256
unshifted t x c e = rw (← e, add-mod-mod x t 256, add_comm x t)

pub sum_changed : (s : List ℕ) (i b c : ℕ) → right_frame s ≡ true → i < 8 → c < 256 → right_frame (set (set s i b) 8 c) ≡ eqb ((get_or s i 0 + c) % 256) ((b + get_or s 8 0) % 256)
sum_changed s i b c r hi hc =
    let p = right-parts s r in
    let t = set s i b in
    let l : length t ≡ 9 = length-set s i b ∙ p.0 in
    let k = carried (total (take 8 t)) (get_or s i 0) (total (take 8 s)) b (get_or s 8 0) (sum-eight s i b p.0 hi) p.1 in
    right_by (set t 8 c) (length-set t 8 c ∙ l)
    ∙ rw (take-set-le 8 t 8 c (omega arith), get_or-set_same t 8 c 0 (omega (arith, l)))
    (same_test ((get_or s i 0 + c) % 256) ((b + get_or s 8 0) % 256) (checksum (take 8 t)) c
    (λ q. shifted (total (take 8 t)) (get_or s i 0) c hc (q ∙ k))
    (λ q. unshifted (total (take 8 t)) (get_or s i 0) c q ∙ sym k))

pub one_written : (x y : Result (Unit {0}) WrongLength) → written_status x ≡ written_status y → x ≡ y
one_written (Ok u) (Ok v) h = refl
one_written (Ok u) (Err f) h = absurd (omega arith)
one_written (Err e) (Ok v) h = absurd (omega arith)
one_written (Err e) (Err f) h = refl

pub laws : Laws
laws =
    record {
      in_part = command-part;
      made_right = made_right;
      made_value = made_value;
      right_made = right_made;
      one_changed = one_changed;
      two_changed = two_changed;
      sum_changed = sum_changed;
      one_written = one_written;
    }
