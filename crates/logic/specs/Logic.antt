-- "AND OR XOR, NOT": bit by bit.
use Rattle.std.specs.Prelude.{◌-◌, ℤ}
use Rattle.std.specs.Int.Bits.{bit_and, bit_or, bit_xor}
use Rattle.words.specs.Word.{bits_of, of_bits}

abbrev pub and_w : ℤ → ℤ → ℤ
and_w a b = of_bits (bit_and (bits_of a) (bits_of b))

abbrev pub or_w : ℤ → ℤ → ℤ
or_w a b = of_bits (bit_or (bits_of a) (bits_of b))

abbrev pub xor_w : ℤ → ℤ → ℤ
xor_w a b = of_bits (bit_xor (bits_of a) (bits_of b))

-- NOT: each bit turned
abbrev pub not_w : ℤ → ℤ
not_w a = of_bits (4294967295 - bits_of a)
