-- The checksum of nine bytes.
use Rattle.std.specs.Prelude.{ℕ, ◌+◌, ◌%◌, Bool, ◌&&◌, List, [], ◌∷◌, length, take, ◌==◌, slice_index}

abbrev pub total : List ℕ → ℕ
total [] = 0
total (x ∷ xs) = x + total xs

-- "The checksum is the other eight bytes added with 8-bit wrapping."
abbrev pub checksum : List ℕ → ℕ
checksum xs = total xs % 256

-- nine bytes, the last of them the checksum of the others
unfoldable pub right_frame : List ℕ → Bool
right_frame s = length s == 9 && checksum (take 8 s) == slice_index s 8
