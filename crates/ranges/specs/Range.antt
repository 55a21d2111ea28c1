-- What of the lists of registers is in range. The others are answered 23: ".. return address above 1,024, .. or a parameter, input,
-- output or flag out of range".
use Rattle.std.specs.Prelude.{ℕ, Bool, true, ◌&&◌, List, [], ◌∷◌, leb, ℤ, pos}
use Rattle.order.specs.Order.{in_range}

-- every element of a list passes a test
abbrev pub every : {A : Type 0} → (A → Bool) → List A → Bool
every f [] = true
every f (a ∷ l) = f a && every f l

-- an address of the program store, or the one just past it
abbrev pub address_in_range : ℕ → Bool
address_in_range a = leb a 1024

-- the return addresses, those that are not in use too
unfoldable pub entries_in_range : List ℕ → Bool
entries_in_range entries = every address_in_range entries

-- an output, a digital input or a flag
abbrev pub bit_in_range : ℕ → Bool
bit_in_range b = leb b 1

-- the outputs, or the digital inputs, or the flags
unfoldable pub bits_in_range : List ℕ → Bool
bits_in_range bits = every bit_in_range bits

-- numbers of 0 to a highest
unfoldable pub each_up_to : ℤ → List ℤ → Bool
each_up_to high numbers = every (λ z. in_range (pos 0) high z) numbers

-- the analog inputs
abbrev pub analog_in_range : List ℤ → Bool
analog_in_range analog = each_up_to (pos 65535) analog

-- outputs and inputs
abbrev pub pins_in_range : List ℕ → List ℕ → List ℤ → Bool
pins_in_range outputs digital analog = bits_in_range outputs && bits_in_range digital && analog_in_range analog
