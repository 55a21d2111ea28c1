-- What a sample sets, part by part.
use Rattle.registers.specs.Registers.{with_flags}
use Rattle.flags.specs.Flags.{raised}
use Rattle.pins.specs.Pins.{digital_of, analog_of, alarms_of}
use Rattle.pins.specs.declared.Inputs.{Inputs}
use Rattle.pins.specs.declared.Signals.{Signals}
use Rattle.sampling.specs.Sample.{settings, settled}
use Rattle.sampling.specs.declared.Readings.{Readings}
use Rattle.board.specs.declared.Registers.{Registers}
use Rattle.reg_image.specs.With.{in_core, with_digital, with_analog, with_values}

abbrev pub alarmed : Signals → Registers → Registers
alarmed s r = in_core (with_flags (raised (alarms_of s) r.core.flags)) r

abbrev pub with_inputs : Inputs → Registers → Registers
with_inputs i r = with_analog (analog_of i) (with_digital (digital_of i) r)

abbrev pub with_readings : Readings → Registers → Registers
with_readings s r = with_values (settled (settings s) 8 r.values) r
