-- "HEX is a byte string as pairs of small hex digits without spaces; the empty string is `-`." A buffer has at most 64 bytes.
use Rattle.std.specs.Prelude.{ℕ, ◌+◌, ◌-◌, ◌*◌, ◌≤◌, ◌≡◌, ◌&&◌, List, [], ◌∷◌, eqb, leb, ltb, get_or, set, Option, Some, None, IfSome}
use Rattle.std.specs.Option.{is_some, unwrap_or}
use Rattle.words.specs.Word.{pick}
use Rattle.text.specs.Line.{behind_space}
use Rattle.text.specs.Numbers.{is_digit}

-- what a small hex digit counts for
abbrev pub digit_value : ℕ → Option ℕ
digit_value b = pick (is_digit b) (Some (b - 48)) (pick (leb 97 b && leb b 102) (Some (b - 87)) None)

-- the byte of two digits, the high one first
abbrev pub byte_of : Option ℕ → Option ℕ → Option ℕ
byte_of None low = None
byte_of (Some h) None = None
byte_of (Some h) (Some l) = Some (h * 16 + l)

abbrev pub pair_value : List ℕ → Option ℕ
pair_value pair = byte_of (digit_value (get_or pair 0 0)) (digit_value (get_or pair 1 0))

-- how many bytes were read, if they were, and the list with them put into it
pub record Taken : Type 0 where
  pub count : Option ℕ
  pub list : List ℕ

-- a word that does not read as bytes: the list has those before the place where it fails
abbrev pub no_bytes : List ℕ → Taken
no_bytes list = record { count = None; list = list }

-- pairs up to the text's end, with so many bytes read before them
abbrev pub pairs_of : List ℕ → ℕ → List ℕ → Taken
pairs_of [] count list = record { count = pick (ltb 0 count) (Some count) None; list = list }
pairs_of (h ∷ []) count list = no_bytes list
pairs_of (h ∷ l ∷ rest) count list =
    pick (ltb count 64 && is_some (pair_value (h ∷ l ∷ [])))
    (pairs_of rest (count + 1) (set list count (unwrap_or (pair_value (h ∷ l ∷ [])) 0))) (no_bytes list)

-- a word that ends with the line
abbrev pub hex_word : List ℕ → List ℕ → Taken
hex_word [] list = no_bytes list
hex_word (b ∷ []) list = record { count = pick (eqb b 45) (Some 0) None; list = list }
hex_word (b ∷ c ∷ l) list = pick (eqb b 45) (no_bytes list) (pairs_of (b ∷ c ∷ l) 0 list)

abbrev pub hex_from : Option (List ℕ) → List ℕ → Taken
hex_from None list = no_bytes list
hex_from (Some word) list = hex_word word list

-- the last word of the line, behind a space
unfoldable pub hex_at : List ℕ → List ℕ → Taken
hex_at text list = hex_from (behind_space text) list

-- an answer and the list that was lent with it
pub record Took (taken : Taken) (r : Option ℕ) (after : List ℕ) : Type 0 where
  pub count : r ≡ taken.count
  pub list : after ≡ taken.list
  pub few : IfSome r (λ n. n ≤ 64)
