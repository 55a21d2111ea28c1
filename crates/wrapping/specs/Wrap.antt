-- "ADD SUB MUL (wrap at 32 bits)"
use Rattle.std.specs.Prelude.{ℕ, ◌-◌, ◌%◌, ℤ, pos, negsuc, ◌+ℤ◌, ◌-ℤ◌, ◌*ℤ◌}
use Rattle.words.specs.Word.{of_bits}

-- the lowest 32 bits of a whole number, as a number below 2^32: `negsuc n` is -(n + 1)
abbrev pub low : ℤ → ℕ
low (pos n) = n % 4294967296
low (negsuc n) = 4294967295 - n % 4294967296

-- the word with the same lowest 32 bits
unfoldable pub wrap : ℤ → ℤ
wrap z = of_bits (low z)

abbrev pub add_w : ℤ → ℤ → ℤ
add_w a b = wrap (a +ℤ b)

abbrev pub sub_w : ℤ → ℤ → ℤ
sub_w a b = wrap (a -ℤ b)

abbrev pub mul_w : ℤ → ℤ → ℤ
mul_w a b = wrap (a *ℤ b)
