-- Numbers of a text, read digit by digit. Assumes nothing.
use Prim.Native.Nat.{ℕ, zero, suc, ◌+◌, ◌-◌, ◌*◌, ◌≤◌, ◌<◌}
use native.Mathlib.Omega.{arith}
use Rattle.std.proofs.lemmas.Int.{ints}
use mathlib.Core.Path.{◌≡◌, refl, sym, ap, subst, ◌∙◌}
use mathlib.Core.Bool.{Bool, true, false}
use mathlib.Core.List.{List, [], ◌∷◌, ◌++◌, append_assoc}
use borrow.Author.Tests.{lt-ltb, ltb-true, ltb-false, le-leb, lt-leb}
use lib.Dec.{ltb, eqb}
use lib.Pointwise.{pointwise}
use lib.IntN.{ℤ, pos, negsuc, ◌+ℤ◌, ◌-ℤ◌}
use lib.ListN.{length, get_or, set, take, drop}
use mir.Syntax.{w32, w64}
use mir.Val.{SFits}
use Rattle.std.proofs.lemmas.Option.{same_Some}
use Rattle.std.specs.Prelude.{Option, Some, None}
use Rattle.std.specs.Option.{SomeIff, option_and_then, option_map}
use Rattle.std.specs.Prelude.{Result, Ok, Err, unsigned_abs as mag_of}
use Rattle.std.specs.Result.{OkIff, result_ok}
use Rattle.std.specs.Int.{FitsUnsignedBits}
use Rattle.std.proofs.lemmas.List.{at_drop_more, append-nil, take_all, take_more_set}
use Rattle.std.proofs.lemmas.List.Folds.{length-prefix_len}
use Rattle.words.specs.declared.Word.{Word}
use Rattle.text.proofs.Word.{word_value}
use Rattle.text.specs.Line.{behind_space}
use Rattle.text.specs.Numbers.{is_digit, digit_count, leading_size, size_of, most_of, value_of, signed_of, of_digits, number_from, number_word, number_at, is_up_to, is_word, word_of, size, if_up_to, if_word, up_to_at, word_at, words_at, Reads}

-- ---- the size of digits
grows : (l : List ℕ) (n : ℕ) → n ≤ size_of n l
grows [] n = omega arith
grows (b ∷ l) n = let h = grows l (n * 10 + (b - 48)) in omega (arith, h)

-- a digit is one more, and goes on with the size
count-digit : (b : ℕ) (l : List ℕ) → is_digit b ≡ true → digit_count (b ∷ l) ≡ suc (digit_count l)
count-digit b l d = simp d (omega arith)

size-digit : (n b : ℕ) (l : List ℕ) → is_digit b ≡ true → leading_size n (b ∷ l) ≡ leading_size (n * 10 + (b - 48)) l
size-digit n b l d = ap (λ (m : ℕ). size_of n (take m (b ∷ l))) (count-digit b l d)

module _ (l : List ℕ) (i n : ℕ) (h : i < length l) (d : is_digit (get_or l i 0) ≡ true) where
  pub next-count : i + digit_count (drop i l) ≡ digit_count l → i + 1 + digit_count (drop (i + 1) l) ≡ digit_count l
  next-count k =
      let e : digit_count (drop i l) ≡ suc (digit_count (drop (i + 1) l)) = at_drop_more digit_count l i 0 h ∙ count-digit (get_or l i 0) (drop (i + 1) l) d in
      omega (arith, e, k)

  module _ (e : leading_size n (drop i l) ≡ leading_size 0 l) where
    pub next-size : leading_size (n * 10 + (get_or l i 0 - 48)) (drop (i + 1) l) ≡ leading_size 0 l
    next-size = sym (size-digit n (get_or l i 0) (drop (i + 1) l) d) ∙ sym (at_drop_more (leading_size n) l i 0 h) ∙ e

    pub too_large : (m : ℕ) → (n * 10 + (get_or l i 0 - 48) < m → ⊥) → leading_size 0 l < m → ⊥
    too_large m k s =
        let g = grows (take (digit_count (drop (i + 1) l)) (drop (i + 1) l)) (n * 10 + (get_or l i 0 - 48)) in
        k (omega (arith, g, next-size, s))

-- ---- the number of a sign and a size
one_of : (minus : Bool) (size : ℕ) (z : ℤ) (r : Option ℤ) → value_of minus size ≡ z
    → (ltb (most_of minus) size ≡ true → SFits w64 z → ⊥) → (ltb (most_of minus) size ≡ false → SFits w64 z)
    → SomeIff r (SFits w64 z) z → r ≡ signed_of minus size
unfolding signed_of
one_of minus size z r e large small h = by (ltb (most_of minus) size) refl r h
  where
    by : (t : Bool) → ltb (most_of minus) size ≡ t → (r : Option ℤ) → SomeIff r (SFits w64 z) z → r ≡ signed_of minus size
    by true t None h = simp t
    by true t (Some x) h = absurd (large t h.0)
    by false t None h = absurd (h (small t))
    by false t (Some x) h = simp t (ap (λ (y : ℤ). Some y) (h.1 ∙ sym e))

plus_one_of : (n : ℕ) (z : ℤ) (r : Option ℤ) → z ≡ pos n → SomeIff r (SFits w64 z) z → r ≡ signed_of false n
plus_one_of n z r e h =
    one_of false n (pos n) r refl
    (λ t f. let k = ltb-true 9223372036854775807 n t in let g = f.sfits in omega (arith, k, g))
    (λ t. let k = ltb-false 9223372036854775807 n t in record { sfits = omega (arith, k) })
    (rw e at h)

pub plus_of : (n : ℕ) (r : Option ℤ) → SomeIff r (SFits w64 (pos 0 +ℤ pos n)) (pos 0 +ℤ pos n) → r ≡ signed_of false n
plus_of n r h = plus_one_of n (pos 0 +ℤ pos n) r (omega (arith, ints)) h

minus_one_of : (n : ℕ) (z : ℤ) (r : Option ℤ) → z ≡ negsuc n → SomeIff r (SFits w64 z) z → r ≡ signed_of true (suc n)
minus_one_of n z r e h =
    one_of true (suc n) (negsuc n) r refl
    (λ t f. let k = ltb-true 9223372036854775808 (suc n) t in let g = f.sfits in omega (arith, k, g))
    (λ t. let k = ltb-false 9223372036854775808 (suc n) t in record { sfits = omega (arith, k) })
    (rw e at h)

pub minus_of : (n : ℕ) (r : Option ℤ) → SomeIff r (SFits w64 (pos 0 -ℤ pos n)) (pos 0 -ℤ pos n) → r ≡ signed_of true n
minus_of zero r h = one_of true 0 (pos 0) r refl (λ t f. absurd (cc)) (λ t. record { sfits = omega arith }) h
minus_of (suc n) r h = minus_one_of n (pos 0 -ℤ pos (suc n)) r (omega (arith, ints)) h

-- ---- the number that a text begins with
of_some : (minus : Bool) (l : List ℕ) → (length l ≡ 0 → ⊥) → of_digits minus l ≡ signed_of minus (size_of 0 l)
of_some minus [] n = absurd (n refl)
of_some minus (b ∷ l) n = refl

of_none : (minus : Bool) (l : List ℕ) → length l ≡ 0 → of_digits minus l ≡ None
of_none minus [] e = refl
of_none minus (b ∷ l) e = absurd (omega arith)

too_large_of : (minus : Bool) (n : ℕ) → (n < 18446744073709551616 → ⊥) → signed_of minus n ≡ None
unfolding signed_of
too_large_of true n h = let k : 9223372036854775808 < n = omega (arith, h) in simp (lt-ltb 9223372036854775808 n k)
too_large_of false n h = let k : 9223372036854775807 < n = omega (arith, h) in simp (lt-ltb 9223372036854775807 n k)

none_of : (minus : Bool) (l : List ℕ) → (size_of 0 l < 18446744073709551616 → ⊥) → of_digits minus l ≡ None
none_of minus [] h = refl
none_of minus (b ∷ l) h = too_large_of minus (size_of 0 (b ∷ l)) h

module _ (minus : Bool) (text : List ℕ) where
  pub no_size : (leading_size 0 text < 18446744073709551616 → ⊥) → None ≡ number_from minus text
  unfolding number_from
  no_size k = rw (none_of minus (take (digit_count text) text) k)

  pub no_digit : digit_count text ≡ 0 → None ≡ number_from minus text
  unfolding number_from
  no_digit e = rw (of_none minus (take (digit_count text) text) (length-prefix_len is_digit text ∙ e))

  module _ (h : digit_count text ≡ 0 → ⊥) where
    some_digit : of_digits minus (take (digit_count text) text) ≡ signed_of minus (leading_size 0 text)
    some_digit = of_some minus (take (digit_count text) text) (λ e. h (sym (length-prefix_len is_digit text) ∙ e))

    pub no_number : signed_of minus (leading_size 0 text) ≡ None → None ≡ number_from minus text
    unfolding number_from
    no_number k = rw (some_digit, k)

    pub one_number : (n : ℤ) → signed_of minus (leading_size 0 text) ≡ Some n → Some (n, drop (digit_count text) text) ≡ number_from minus text
    unfolding number_from
    one_number n k = rw (some_digit, k)

-- ---- the number behind a space
module _ (text : List ℕ) where
  pub no_word : None ≡ behind_space text → None ≡ number_at text
  unfolding number_at
  no_word e = ap (option_and_then number_word) e

  pub one_word : (word : List ℕ) (read : Option (ℤ × List ℕ)) → Some word ≡ behind_space text → read ≡ number_word word → read ≡ number_at text
  unfolding number_at
  one_word word read e f = f ∙ ap (option_and_then number_word) e

pub with-minus : (word digits : List ℕ) → pointwise eqb (take 1 word) (45 ∷ []) ≡ true → digits ≡ drop 1 word
    → number_from true digits ≡ number_word word
with-minus [] digits h e = absurd (cc)
with-minus (b ∷ l) digits h e = by (eqb b 45) refl
  where
    by : (t : Bool) → eqb b 45 ≡ t → number_from true digits ≡ number_word (b ∷ l)
    by true k = simp (k, e)
    by false k = absurd (let g = simp k at h in cc)

pub with-none : (word : List ℕ) → pointwise eqb (take 1 word) (45 ∷ []) ≡ false → number_from false word ≡ number_word word
unfolding number_from
with-none [] h = refl
with-none (b ∷ l) h = by (eqb b 45) refl
  where
    by : (t : Bool) → eqb b 45 ≡ t → number_from false (b ∷ l) ≡ number_word (b ∷ l)
    by true k = absurd (let g = simp k at h in cc)
    by false k = simp k

-- ---- what is read, and what is left
pub reads_none : {A : Type 0} → (read : Option (A × List ℕ)) (before : List ℕ) → None ≡ read → Reads read before None before
reads_none {A} read before e = subst (λ (o : Option (A × List ℕ)). Reads o before None before) e (refl, refl)

pub reads_some : {A : Type 0} → (read : Option (A × List ℕ)) (before : List ℕ) (x : A) (rest : List ℕ) → Some (x, rest) ≡ read → Reads read before (Some x) rest
reads_some {A} read before x rest e = subst (λ (o : Option (A × List ℕ)). Reads o before (Some x) rest) e (refl, refl)

-- ---- numbers of a kind
pub not_unsigned : {E : Type 0} → (most : ℕ) (z : ℤ) (r : Result ℕ E) → OkIff r (FitsUnsignedBits 64 z) (mag_of z)
    → most < 18446744073709551616 → None ≡ result_ok r → is_up_to most z ≡ false
not_unsigned most z (Ok x) h m e = absurd (cc)
not_unsigned most (pos n) (Err d) h m e = lt-leb n most (omega (arith, h))
not_unsigned most (negsuc n) (Err d) h m e = refl

pub too_high : {E : Type 0} → (most : ℕ) (z : ℤ) (r : Result ℕ E) → OkIff r (FitsUnsignedBits 64 z) (mag_of z)
    → (n : ℕ) → Some n ≡ result_ok r → most < n → is_up_to most z ≡ false
too_high most z (Err d) h n e k = absurd (cc)
too_high most (pos m) (Ok x) h n e k = lt-leb m most (omega (arith, h.1, same_Some n x e))
too_high most (negsuc m) (Ok x) h n e k = refl

pub high-enough : {E : Type 0} → (most : ℕ) (z : ℤ) (r : Result ℕ E) → OkIff r (FitsUnsignedBits 64 z) (mag_of z)
    → (n : ℕ) → Some n ≡ result_ok r → n ≤ most → (is_up_to most z ≡ true) × (size z ≡ n)
high-enough most z (Err d) h n e k = absurd (cc)
high-enough most (pos m) (Ok x) h n e k = (le-leb m most (omega (arith, h.1, same_Some n x e)), omega (arith, h.1, same_Some n x e))
high-enough most (negsuc m) (Ok x) h n e k = absurd h.0

fits_of : (z : ℤ) → is_word z ≡ true → SFits w32 z
fits_of (pos n) t = record { sfits = ltb-true n 2147483648 t }
fits_of (negsuc n) t = record { sfits = ltb-true n 2147483648 t }

word-fits : (z : ℤ) → SFits w32 z → is_word z ≡ true
word-fits (pos n) f = lt-ltb n 2147483648 f.sfits
word-fits (negsuc n) f = lt-ltb n 2147483648 f.sfits

pub not_word : {E : Type 0} → (z : ℤ) (r : Result ℤ E) → OkIff r (SFits w32 z) z → None ≡ result_ok r → is_word z ≡ false
not_word z (Ok x) h e = absurd (cc)
not_word z (Err d) h e = by (is_word z) refl
  where
    by : (t : Bool) → is_word z ≡ t → is_word z ≡ false
    by true t = absurd (h (fits_of z t))
    by false t = t

pub is_a_word : {E : Type 0} → (z : ℤ) (r : Result ℤ E) → OkIff r (SFits w32 z) z
    → (n : ℤ) → Some n ≡ result_ok r → (is_word z ≡ true) × ((word_of z).v ≡ n)
is_a_word z (Err d) h n e = absurd (cc)
is_a_word z (Ok x) h n e =
    let f = word-fits z h.0 in
    (f, ap (λ (w : Word). w.v) (word_value z f) ∙ sym h.1 ∙ sym (same_Some n x e))

module _ (text : List ℕ) where
  module _ (most : ℕ) where
    pub no_number_up_to : None ≡ number_at text → None ≡ up_to_at most text
    unfolding up_to_at
    no_number_up_to e = ap (option_and_then (if_up_to most)) e

    module _ (z : ℤ) (rest : List ℕ) (e : Some (z, rest) ≡ number_at text) where
      pub not_up_to : is_up_to most z ≡ false → None ≡ up_to_at most text
      unfolding up_to_at
      not_up_to t = sym (simp t) ∙ ap (option_and_then (if_up_to most)) e

      pub one_up_to : (n : ℕ) → (is_up_to most z ≡ true) × (size z ≡ n) → Some (n, rest) ≡ up_to_at most text
      unfolding up_to_at
      one_up_to n t = sym (simp t.0 (ap (λ (m : ℕ). Some (m, rest)) t.1)) ∙ ap (option_and_then (if_up_to most)) e

  pub no_number_word : None ≡ number_at text → None ≡ word_at text
  unfolding word_at
  no_number_word e = ap (option_and_then if_word) e

  module _ (z : ℤ) (rest : List ℕ) (e : Some (z, rest) ≡ number_at text) where
    pub not_one_word : is_word z ≡ false → None ≡ word_at text
    unfolding word_at
    not_one_word t = sym (simp t) ∙ ap (option_and_then if_word) e

    pub the_word : (n : ℤ) → (is_word z ≡ true) × ((word_of z).v ≡ n) → Some (n, rest) ≡ word_at text
    unfolding word_at
    the_word n t = sym (simp t.0 (ap (λ (m : ℤ). Some (m, rest)) t.1)) ∙ ap (option_and_then if_word) e

-- ---- words, one behind the other
from_reads_some : {A : Type 0} → (read : Option (A × List ℕ)) (before after : List ℕ) (x : A) → Reads read before (Some x) after → read ≡ Some (x, after)
from_reads_some {A} None before after x h = let e = h.0 in absurd (cc)
from_reads_some {A} (Some (y, rest)) before after x h =
    ap (λ (z : A). Some (z, rest)) (sym (same_Some x y h.0)) ∙ ap (λ (l : List ℕ). Some (x, l)) (sym h.1)

from_reads_none : {A : Type 0} → (read : Option (A × List ℕ)) (before after : List ℕ) → Reads read before None after → read ≡ None
from_reads_none None before after h = refl
from_reads_none (Some r) before after h = let e = h.0 in absurd (cc)

-- the words so far before those that are read
abbrev pub behind : List ℤ → Option (List ℤ × List ℕ) → Option (List ℤ × List ℕ)
behind front read = option_map (λ r. (front ++ r.0, r.1)) read

pub behind-nil : (read : Option (List ℤ × List ℕ)) → read ≡ behind [] read
behind-nil None = refl
behind-nil (Some r) = refl

behind-more : (front : List ℤ) (w : ℤ) (read : Option (List ℤ × List ℕ)) → behind front (option_map (λ r. (w ∷ r.0, r.1)) read) ≡ behind (front ++ w ∷ []) read
behind-more front w None = refl
behind-more front w (Some r) = ap (λ (l : List ℤ). Some (l, r.1)) (sym (append_assoc front (w ∷ []) r.0))

module _ (all : Option (List ℤ × List ℕ)) (n i : ℕ) (words : List ℤ) (text : List ℕ) (k : i < n) (e : all ≡ behind (take i words) (words_at (n - i) text)) where
  one_left : n - i ≡ suc (n - (i + 1))
  one_left = omega arith

  pub word-more : length words ≡ n → (w v : ℤ) (after : List ℕ) → v ≡ w → Reads (word_at text) text (Some w) after
      → all ≡ behind (take (i + 1) (set words i v)) (words_at (n - (i + 1)) after)
  word-more h w v after q r =
      let l : i < length words = omega arith in
      e ∙ ap (λ (m : ℕ). behind (take i words) (words_at m text)) one_left
      ∙ ap (λ (o : Option (ℤ × List ℕ)). behind (take i words) (option_and_then (λ r. option_map (λ q. (r.0 ∷ q.0, q.1)) (words_at (n - (i + 1)) r.1)) o)) (from_reads_some _ _ _ _ r)
      ∙ behind-more (take i words) w (words_at (n - (i + 1)) after)
      ∙ ap (λ (front : List ℤ). behind front (words_at (n - (i + 1)) after)) (sym (ap (λ (u : ℤ). take (i + 1) (set words i u)) q ∙ take_more_set words i w l))

  pub word-none : (after : List ℕ) → Reads (word_at text) text None after → None ≡ all
  word-none after r =
      sym (e ∙ ap (λ (m : ℕ). behind (take i words) (words_at m text)) one_left
      ∙ ap (λ (o : Option (ℤ × List ℕ)). behind (take i words) (option_and_then (λ r. option_map (λ q. (r.0 ∷ q.0, q.1)) (words_at (n - (i + 1)) r.1)) o)) (from_reads_none _ _ _ r))

pub words-all : (all : Option (List ℤ × List ℕ)) (n i : ℕ) (words : List ℤ) (text : List ℕ) → n ≤ i → length words ≡ n
    → all ≡ behind (take i words) (words_at (n - i) text) → Some (words, text) ≡ all
words-all all n i words text h l e =
    let z : n - i ≡ 0 = omega arith in
    let k : length words ≤ i = omega arith in
    sym (e ∙ ap (λ (m : ℕ). behind (take i words) (words_at m text)) z ∙ ap (λ (front : List ℤ). Some (front, text)) (append-nil (take i words) ∙ take_all i words k))
