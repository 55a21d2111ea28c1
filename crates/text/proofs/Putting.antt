-- Texts put one behind the other. Assumes nothing.
use Prim.Native.Nat.{ℕ, zero, suc, ◌+◌, ◌-◌, ◌/◌, ◌%◌, ◌≤◌, ◌<◌, min}
use native.Mathlib.Omega.{arith}
use mathlib.Core.Path.{◌≡◌, refl, sym, ap, ◌∙◌}
use mathlib.Core.List.{List, [], ◌∷◌, ◌++◌, append_assoc}
use lib.ListN.{length, take, drop, set, get_or, drop_of_length-le}
use lib.Seq.{take-append-add}
use Rattle.std.proofs.lemmas.List.{take_min, append-nil, take_more_set, take_all, take_at, length_push, length-take-le}
use Rattle.std.proofs.lemmas.Fmt.{decimal_from_prepends, decimal_digit, length-decimal-le}
use Rattle.std.proofs.Common.{rules}
use Rattle.std.proofs.lemmas.Slice.{take-put_mid}
use borrow.Rule.Slice.PartMut.{put_mid}
use Rattle.std.specs.Fmt as std
use Rattle.std.specs.Prelude.{unsigned_abs as mag_of}
use lib.IntN.{ℤ, pos, negsuc}
use lib.Signed.{lt_z}
use borrow.Author.Tests.{ltb-true}
use mathlib.Core.Bool.{true, false}
use Rattle.text.specs.Put.{Put, digits_before, decimal, signed, hex_digit, pairs_for, hex}

take-take-append : (n : ℕ) (l m : List ℕ) → take n (take n l ++ m) ≡ take n (l ++ m)
take-take-append zero l m = refl
take-take-append (suc n) [] m = refl
take-take-append (suc n) (x ∷ l) m = ap (λ (k : List ℕ). x ∷ k) (take-take-append n l m)

-- a text, and then another
pub then-put : (before first mid second after text : List ℕ)
    → Put before first mid → Put mid second after → first ++ second ≡ text → Put before text after
then-put before first mid second after text p q e =
    record {
      out =
          q.out ∙ ap (λ (m : List ℕ). take 65536 (m ++ second)) p.out ∙ take-take-append 65536 (before ++ first) second
          ∙ ap (λ (l : List ℕ). take 65536 l) (append_assoc before first second ∙ ap (λ (l : List ℕ). before ++ l) e);
    }

pub same-put : (before first text after : List ℕ) → Put before first after → first ≡ text → Put before text after
same-put before first text after p e = rw e at p

-- as much of a text as there is room for
within : (before text : List ℕ) (end : ℕ) → length before ≡ end → end ≤ 65536
    → before ++ take (min (65536 - end) (length text)) text ≡ take 65536 (before ++ text)
within before text end e h =
    let k : 65536 ≡ length before + (65536 - end) = omega arith in
    ap (λ (l : List ℕ). before ++ l) (take_min (65536 - end) text)
    ∙ sym (ap (λ (n : ℕ). take n (before ++ text)) k ∙ take-append-add before text (65536 - end))

-- ---- digits
same_decimal : (n : ℕ) → n < 18446744073709551616 → decimal n ≡ std.decimal n
unfolding decimal
same_decimal n h = decimal_from_prepends digits_before (search rules) 20 n [] h (length-decimal-le 20 n (omega arith) (omega arith) h) ∙ append-nil _

pub one_digit : (n : ℕ) → n < 10 → decimal n ≡ (48 + n) ∷ []
one_digit n h = same_decimal n (omega arith) ∙ decimal_digit n h

-- digits at the end of an array
pub no_text : (l : List ℕ) (i : ℕ) → length l ≤ i → drop i l ≡ []
no_text l i h = drop_of_length-le l h

-- ---- the buffer's bytes, up to the end that they are put to
module _ (bytes before : List ℕ) (end b : ℕ) (size : length bytes ≡ 65536) (view : take end bytes ≡ before) where
  pub with-room : end < 65536 → Put before (b ∷ []) (take (end + 1) (set bytes end b))
  with-room h =
      let e : end < length bytes = omega arith in
      let n : length before ≡ end = ap length (sym view) ∙ length-take-le end bytes (omega arith) in
      let m : length (before ++ b ∷ []) ≤ 65536 = rw length_push (omega arith) in
      record { out = take_more_set bytes end b e ∙ ap (λ (l : List ℕ). l ++ b ∷ []) view ∙ sym (take_all 65536 (before ++ b ∷ []) m) }

  pub without-room : 65536 ≤ end → end ≤ 65536 → Put before (b ∷ []) before
  without-room h k =
      let e : length before ≡ 65536 = ap length (sym view) ∙ length-take-le end bytes (omega arith) ∙ omega arith in
      record { out = sym (take_at before (b ∷ []) 65536 e) }

pub with-part : (bytes before text part : List ℕ) (end count last : ℕ) → length bytes ≡ 65536 → take end bytes ≡ before → end ≤ 65536
    → last ≡ end + count → count ≡ min (65536 - end) (length text) → part ≡ take count text
    → Put before text (take last (put_mid end (last - end) bytes part))
with-part bytes before text part end count last size view h l e f =
    let k : count ≤ length text = omega arith in
    let n : length part ≡ count = ap length f ∙ length-take-le count text k in
    let m : last ≡ end + length part = omega arith in
    let j : end ≤ length bytes = omega arith in
    let b : length before ≡ end = ap length (sym view) ∙ length-take-le end bytes j in
    record {
      out =
          take-put_mid end (last - end) bytes part last m j
          ∙ ap (λ (l : List ℕ). l ++ part) view
          ∙ ap (λ (l : List ℕ). before ++ l) (f ∙ ap (λ (i : ℕ). take i text) e)
          ∙ within before text end b h;
    }

-- ---- bytes as pairs
pub hex_more : (l : List ℕ) (i : ℕ) → i < length l → pairs_for (take (i + 1) l) ≡ pairs_for (take i l) ++ (hex_digit (get_or l i 0 / 16) ∷ hex_digit (get_or l i 0 % 16) ∷ [])
hex_more [] i h = absurd (omega arith)
hex_more (b ∷ l) zero h = refl
hex_more (b ∷ l) (suc i) h =
    let k : i < length l = omega arith in
    let e : suc i + 1 ≡ suc (i + 1) = omega arith in
    ap (λ (n : ℕ). pairs_for (take n (b ∷ l))) e ∙ ap (λ (m : List ℕ). hex_digit (b / 16) ∷ hex_digit (b % 16) ∷ m) (hex_more l i k)

pub hex_all : (l : List ℕ) (i : ℕ) → (length l ≡ 0 → ⊥) → length l ≤ i → pairs_for (take i l) ≡ hex l
unfolding hex
hex_all [] i n h = absurd (n refl)
hex_all (b ∷ l) i n h = ap pairs_for (take_all i (b ∷ l) h)

pub hex_none : (l : List ℕ) → length l ≡ 0 → 45 ∷ [] ≡ hex l
unfolding hex
hex_none [] e = refl
hex_none (b ∷ l) e = absurd (omega arith)

-- the digits as the code has them
abbrev digits : List ℕ
digits = 48 ∷ 49 ∷ 50 ∷ 51 ∷ 52 ∷ 53 ∷ 54 ∷ 55 ∷ 56 ∷ 57 ∷ 97 ∷ 98 ∷ 99 ∷ 100 ∷ 101 ∷ 102 ∷ []

pub digit_at : (d : ℕ) → d < 16 → get_or digits d 0 ≡ hex_digit d
digit_at zero h = refl
digit_at (suc zero) h = refl
digit_at (suc (suc zero)) h = refl
digit_at (suc (suc (suc zero))) h = refl
digit_at (suc (suc (suc (suc zero)))) h = refl
digit_at (suc (suc (suc (suc (suc zero))))) h = refl
digit_at (suc (suc (suc (suc (suc (suc zero)))))) h = refl
digit_at (suc (suc (suc (suc (suc (suc (suc zero))))))) h = refl
digit_at (suc (suc (suc (suc (suc (suc (suc (suc zero)))))))) h = refl
digit_at (suc (suc (suc (suc (suc (suc (suc (suc (suc zero))))))))) h = refl
digit_at (suc (suc (suc (suc (suc (suc (suc (suc (suc (suc zero)))))))))) h = refl
digit_at (suc (suc (suc (suc (suc (suc (suc (suc (suc (suc (suc zero))))))))))) h = refl
digit_at (suc (suc (suc (suc (suc (suc (suc (suc (suc (suc (suc (suc zero)))))))))))) h = refl
digit_at (suc (suc (suc (suc (suc (suc (suc (suc (suc (suc (suc (suc (suc zero))))))))))))) h = refl
digit_at (suc (suc (suc (suc (suc (suc (suc (suc (suc (suc (suc (suc (suc (suc zero)))))))))))))) h = refl
digit_at (suc (suc (suc (suc (suc (suc (suc (suc (suc (suc (suc (suc (suc (suc (suc zero))))))))))))))) h = refl
digit_at (suc (suc (suc (suc (suc (suc (suc (suc (suc (suc (suc (suc (suc (suc (suc (suc d)))))))))))))))) h = absurd (omega arith)

-- ---- a signed number
pub not_negative : (z : ℤ) (n : ℕ) → lt_z z (pos 0) ≡ false → n ≡ mag_of z → decimal n ≡ signed z
unfolding signed
not_negative (pos k) n h e = ap decimal e
not_negative (negsuc k) n h e = absurd (cc)

pub negative : (z : ℤ) (n : ℕ) → lt_z z (pos 0) ≡ true → n ≡ mag_of z → 45 ∷ decimal n ≡ signed z
unfolding signed
negative (pos k) n h e = absurd (omega (arith, ltb-true k 0 h))
negative (negsuc k) n h e = ap (λ (m : ℕ). 45 ∷ decimal m) e
