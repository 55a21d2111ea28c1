-- "A sample carries ramp and actual position, reached flag, right, left and home switch, supply voltage, temperature, two digital
-- inputs (0/1), three analog inputs (0 to 65,535), three alarms."
use Rattle.std.specs.Prelude.{ℕ, zero, suc, Bool, ◌&&◌, List, [], ◌∷◌, ℤ, pos, get_or}
use Rattle.rows.specs.Row.{allowed}
use Rattle.sheet.specs.Rows.{rows, row_at}
use Rattle.sheet.specs.Places.{axis_place, all_below}
use Rattle.values.specs.Values.{set_value}
use Rattle.pins.specs.Pins.{inputs_in_range, signals_in_range}
use Rattle.sampling.specs.declared.Readings.{Readings}
use Rattle.sampling.specs.declared.Sample.{Sample}

-- ---- "It sets parameters 51, 52, 55, 211, 212, 213, 220, 221 and the inputs"
abbrev pub numbers : List ℕ
numbers = 51 ∷ 52 ∷ 55 ∷ 211 ∷ 212 ∷ 213 ∷ 220 ∷ 221 ∷ []

-- what they are set to, in this order
abbrev pub settings : Readings → List ℤ
settings s =
    s.ramp_position
    ∷ s.actual_position
    ∷ s.reached
    ∷ s.right
    ∷ s.left
    ∷ s.home
    ∷ s.supply_voltage
    ∷ s.temperature
    ∷ []

-- the place of the i-th of them among the working values
abbrev pub place_of : ℕ → ℕ
place_of i = axis_place (get_or numbers i 0)

-- each is in its parameter's range
abbrev pub setting_at : List ℤ → ℕ → ℕ → Bool
setting_at zs i place = allowed (row_at rows place) (get_or zs i (pos 0))

abbrev pub setting_in_range : List ℤ → ℕ → Bool
setting_in_range zs i = setting_at zs i (place_of i)

unfoldable pub settings_in_range : List ℤ → Bool
settings_in_range zs = all_below (setting_in_range zs) 8

abbrev pub readings_in_range : Readings → Bool
readings_in_range s = settings_in_range (settings s)

-- the values with the first n of them set
unfoldable pub settled : List ℤ → ℕ → List ℤ → List ℤ
settled zs zero vs = vs
settled zs (suc n) vs = set_value (settled zs n vs) (place_of n) (get_or zs n (pos 0))

-- ---- "a sample field out of range" is answered 21
unfoldable pub sample_in_range : Sample → Bool
sample_in_range s = readings_in_range s.readings && inputs_in_range s.inputs && signals_in_range s.signals
