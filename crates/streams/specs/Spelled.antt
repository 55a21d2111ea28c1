-- Bytes as digits.
use Rattle.std.specs.Prelude.{ℕ, List, true, [], ◌∷◌, ◌++◌, ◌-◌, ◌^◌, false}
use Rattle.std.specs.List.{flat_map}
use Rattle.std.specs.Fmt.{digits, format_spec, padded_integral}

-- two digits for a byte, the letters great: what `{:02X}` writes
abbrev pub digits_of : ℕ → List ℕ
digits_of byte = padded_integral (format_spec 32 0 4 2 (2 ^ 64 - 1)) false [] (digits 16 true byte)

-- the same behind a space
abbrev pub after_space : ℕ → List ℕ
after_space byte = 32 ∷ digits_of byte

-- two digits for each byte, single spaces between
abbrev pub spelled : List ℕ → List ℕ
spelled [] = []
spelled (byte ∷ bytes) = digits_of byte ++ flat_map after_space bytes
