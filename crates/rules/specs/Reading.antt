-- What 6 GAP, 10 GGP and 15 GIO read: working values, registers and pins, and no cell.
use Rattle.std.specs.Prelude.{ℕ, Bool, List, eqb, ltb, ℤ, pos, get_or}
use Rattle.words.specs.Word.{pick, word, of_bits}
use Rattle.words.specs.declared.Word.{Word}
use Rattle.wire.specs.declared.Command.{Command}
use Rattle.values.specs.Values.{value_at}
use Rattle.sheet.specs.Places.{axis_place}
use Rattle.settings.specs.Settings.{bank_place}
use Rattle.registers.specs.declared.Core.{Core}

-- the word that has the bits of a register's number
abbrev pub number : ℕ → Word
number n = word (of_bits n)

abbrev pub bit : Bool → Word
bit on = pick on (number 1) (number 0)

-- "128 (running 0/1) and 130 (program address), read only", in bank 0
unfoldable pub global : ℕ → ℕ → Core → List ℤ → Word
global bank n c values =
    pick (eqb bank 2) (value_at values (bank_place bank n))
    (pick (eqb n 128) (bit c.running) (pick (eqb n 130) (number c.address) (value_at values (bank_place bank n))))

-- "15 GIO (bank 0 port 0..1, bank 1 port 0..2, bank 2 port 0..3)": digital inputs, analog inputs, outputs
unfoldable pub digital_at : List ℕ → ℕ → Word
digital_at digital p = pick (ltb p 2) (number (get_or digital p 0)) (number 0)

unfoldable pub analog_at : List ℤ → ℕ → Word
analog_at analog p = pick (ltb p 3) (word (get_or analog p (pos 0))) (number 0)

unfoldable pub output_at : List ℕ → ℕ → Word
output_at outputs p = pick (ltb p 4) (number (get_or outputs p 0)) (number 0)

unfoldable pub port : ℕ → ℕ → List ℕ → List ℕ → List ℤ → Word
port bank p outputs digital analog =
    pick (eqb bank 0) (digital_at digital p) (pick (eqb bank 1) (analog_at analog p) (output_at outputs p))

unfoldable pub read : Command → Core → List ℤ → List ℕ → List ℕ → List ℤ → Word
read c core values outputs digital analog =
    pick (eqb c.number 6) (value_at values (axis_place c.kind))
    (pick (eqb c.number 10) (global c.motor c.kind core values)
    (port c.motor c.kind outputs digital analog))
