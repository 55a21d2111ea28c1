-- "Numbers are decimal, with a minus sign where negative, and fit a signed 64-bit number." What is read at the front of a text is given
-- with what stands behind it.
use Rattle.std.specs.Prelude.{ℕ, zero, suc, ◌+◌, ◌-◌, ◌*◌, ◌%◌, ◌≡◌, Bool, true, false, ◌&&◌, List, [], ◌∷◌, eqb, leb, ltb, ℤ, pos, negsuc, take, drop, Option, Some, None}
use Rattle.std.specs.List.{prefix_len}
use Rattle.std.specs.Option.{option_and_then, option_map}
use Rattle.words.specs.Word.{pick, word, of_bits}
use Rattle.words.specs.declared.Word.{Word}
use Rattle.text.specs.Line.{behind_space}

-- ---- digits
abbrev pub is_digit : ℕ → Bool
is_digit b = leb 48 b && leb b 57

-- how many of them a text begins with
abbrev pub digit_count : List ℕ → ℕ
digit_count text = prefix_len is_digit text

-- the size of a number that goes on with these digits
abbrev pub size_of : ℕ → List ℕ → ℕ
size_of n [] = n
size_of n (b ∷ l) = size_of (n * 10 + (b - 48)) l

-- and with those that a text begins with
abbrev pub leading_size : ℕ → List ℕ → ℕ
leading_size n text = size_of n (take (digit_count text) text)

-- ---- one number
-- the size of the lowest signed 64-bit number, and of the highest
abbrev pub most_of : Bool → ℕ
most_of minus = pick minus 9223372036854775808 9223372036854775807

abbrev pub negative : ℕ → ℤ
negative zero = pos 0
negative (suc n) = negsuc n

-- the number that a sign and a size give
abbrev pub value_of : Bool → ℕ → ℤ
value_of minus size = pick minus (negative size) (pos size)

-- there is a number where it fits
unfoldable pub signed_of : Bool → ℕ → Option ℤ
signed_of minus size = pick (ltb (most_of minus) size) None (Some (value_of minus size))

-- and where it has a digit
abbrev pub of_digits : Bool → List ℕ → Option ℤ
of_digits minus [] = None
of_digits minus (d ∷ l) = signed_of minus (size_of 0 (d ∷ l))

unfoldable pub number_from : Bool → List ℕ → Option (ℤ × List ℕ)
number_from minus text = option_map (λ n. (n, drop (digit_count text) text)) (of_digits minus (take (digit_count text) text))

-- the number that a text begins with, by a minus or by a digit
abbrev pub number_word : List ℕ → Option (ℤ × List ℕ)
number_word [] = None
number_word (b ∷ l) = pick (eqb b 45) (number_from true l) (number_from false (b ∷ l))

-- the number behind a space
unfoldable pub number_at : List ℕ → Option (ℤ × List ℕ)
number_at text = option_and_then number_word (behind_space text)

-- ---- what a number is
abbrev pub is_up_to : ℕ → ℤ → Bool
is_up_to most (pos n) = leb n most
is_up_to most (negsuc n) = false

abbrev pub is_word : ℤ → Bool
is_word (pos n) = ltb n 2147483648
is_word (negsuc n) = ltb n 2147483648

-- the word of its last 32 bits; `negsuc n` is -(n + 1)
abbrev pub last_bits : ℤ → ℕ
last_bits (pos n) = n % 4294967296
last_bits (negsuc n) = 4294967295 - n % 4294967296

unfoldable pub word_of : ℤ → Word
word_of n = word (of_bits (last_bits n))

-- ---- numbers of a kind
abbrev pub size : ℤ → ℕ
size (pos n) = n
size (negsuc n) = suc n

-- one from 0 to a highest
abbrev pub if_up_to : ℕ → ℤ × List ℕ → Option (ℕ × List ℕ)
if_up_to most read = pick (is_up_to most read.0) (Some (size read.0, read.1)) None

unfoldable pub up_to_at : ℕ → List ℕ → Option (ℕ × List ℕ)
up_to_at most text = option_and_then (if_up_to most) (number_at text)

-- one that a word holds
abbrev pub if_word : ℤ × List ℕ → Option (ℤ × List ℕ)
if_word read = pick (is_word read.0) (Some ((word_of read.0).v, read.1)) None

unfoldable pub word_at : List ℕ → Option (ℤ × List ℕ)
word_at text = option_and_then if_word (number_at text)

-- so many of them, one behind the other
abbrev pub words_at : ℕ → List ℕ → Option (List ℤ × List ℕ)
words_at zero text = Some ([], text)
words_at (suc n) text = option_and_then (λ r. option_map (λ q. (r.0 ∷ q.0, q.1)) (words_at n r.1)) (word_at text)

-- ---- an answer, and what is left of the text: all of it where nothing is read
abbrev pub Reads : {A : Type 0} → Option (A × List ℕ) → List ℕ → Option A → List ℕ → Type 0
Reads None before r after = (r ≡ None) × (after ≡ before)
Reads (Some read) before r after = (r ≡ Some read.0) × (after ≡ read.1)
