-- Words put into a buffer of 65,536 bytes: a space, and a number in decimal or bytes in hex.
use Rattle.std.specs.Prelude.{ℕ, zero, suc, ◌+◌, ◌/◌, ◌%◌, ◌≡◌, List, [], ◌∷◌, ◌++◌, eqb, ltb, ℤ, pos, negsuc, take}
use Rattle.words.specs.Word.{pick}

-- a text put behind what is put before: bytes that find no room are left out
pub record Put (before text after : List ℕ) : Type 0 where
  pub out : after ≡ take 65536 (before ++ text)

-- ---- numbers
-- the digits of a number before a text, so many at most, the last first
abbrev pub digits_before : ℕ → ℕ → List ℕ → List ℕ
digits_before zero n text = text
digits_before (suc most) n text =
    pick (eqb (n / 10) 0) ((48 + n % 10) ∷ text) (digits_before most (n / 10) ((48 + n % 10) ∷ text))

-- in decimal: a 64-bit number has twenty digits at most
unfoldable pub decimal : ℕ → List ℕ
decimal n = digits_before 20 n []

-- "with a minus sign where negative"
unfoldable pub signed : ℤ → List ℕ
signed (pos n) = decimal n
signed (negsuc n) = 45 ∷ decimal (suc n)

-- ---- bytes
abbrev pub hex_digit : ℕ → ℕ
hex_digit d = pick (ltb d 10) (48 + d) (87 + d)

abbrev pub pairs_for : List ℕ → List ℕ
pairs_for [] = []
pairs_for (b ∷ l) = hex_digit (b / 16) ∷ hex_digit (b % 16) ∷ pairs_for l

-- "the empty string is `-`"
unfoldable pub hex : List ℕ → List ℕ
hex [] = 45 ∷ []
hex (b ∷ l) = pairs_for (b ∷ l)
