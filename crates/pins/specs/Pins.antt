-- "two digital inputs (0/1), three analog inputs (0 to 65,535), three alarms"
use Rattle.std.specs.Prelude.{ℕ, Bool, ◌&&◌, List, [], ◌∷◌, ℤ, pos}
use Rattle.words.specs.Word.{pick}
use Rattle.order.specs.Order.{same_w}
use Rattle.ranges.specs.Range.{each_up_to, analog_in_range}
use Rattle.flags.specs.declared.Alarms.{Alarms}
use Rattle.pins.specs.declared.Inputs.{Inputs}
use Rattle.pins.specs.declared.Signals.{Signals}

-- each 1 or 0
abbrev pub is_on : ℤ → Bool
is_on z = same_w z (pos 1)

abbrev pub bit_of : ℤ → ℕ
bit_of z = pick (is_on z) 1 0

abbrev pub digital_of : Inputs → List ℕ
digital_of i = bit_of i.digital_0.v ∷ bit_of i.digital_1.v ∷ []

abbrev pub analog_of : Inputs → List ℤ
analog_of i = i.analog_0 ∷ i.analog_1 ∷ i.analog_2 ∷ []

abbrev pub inputs_in_range : Inputs → Bool
inputs_in_range i = each_up_to (pos 1) (i.digital_0.v ∷ i.digital_1.v ∷ []) && analog_in_range (analog_of i)

abbrev pub alarms_of : Signals → Alarms
alarms_of s = record { eal = is_on s.eal.v; edv = is_on s.edv.v; epo = is_on s.epo.v }

abbrev pub signals_in_range : Signals → Bool
signals_in_range s = each_up_to (pos 1) (s.eal.v ∷ s.edv.v ∷ s.epo.v ∷ [])
