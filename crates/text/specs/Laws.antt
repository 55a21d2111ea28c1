-- What a user of numbers in a text relies on.
use Rattle.std.specs.Prelude.{ℕ, ◌<◌, ◌≡◌, true, ℤ}
use Rattle.words.specs.Word.{word}
use Rattle.text.specs.Numbers.{size_of, is_word, word_of}
use Rattle.text.specs.Put.{decimal}

pub record Laws : Type 0 where
  -- the digits that are put for a 64-bit number make that number
  pub digits_back : (n : ℕ) → n < 18446744073709551616 → size_of 0 (decimal n) ≡ n
  -- the word of a number that a word holds is that number
  pub word_value : (n : ℤ) → is_word n ≡ true → word_of n ≡ word n
