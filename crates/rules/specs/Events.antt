-- What the events power-up, sample and tick answer and leave: "For the other events 20, then 23 (not at power-up), then 21".
use Rattle.std.specs.Prelude.{ℕ, List}
use Rattle.store.specs.Store.{is_parameter_store}
use Rattle.words.specs.Word.{pick}
use Rattle.registers.specs.Registers.{with_wait, with_flags}
use Rattle.flags.specs.Flags.{raised}
use Rattle.waits.specs.Waits as waits
use Rattle.pins.specs.Pins.{digital_of, analog_of, alarms_of}
use Rattle.sampling.specs.Sample.{settings, settled, sample_in_range}
use Rattle.sampling.specs.declared.Sample.{Sample}
use Rattle.board.specs.Registers.{powered}
use Rattle.board.specs.Range.{registers_in_range}
use Rattle.board.specs.declared.Registers.{Registers}

-- the registers left, and the number answered
pub record Outcome : Type 0 where
  pub registers : Registers
  pub status : ℕ

abbrev pub outcome : ℕ → Registers → Outcome
outcome n r = record { registers = r; status = n }

-- "It sets parameters 51, 52, 55, 211, 212, 213, 220, 221 and the inputs; an alarm that is on sets EAL, EDV or EPO, one that is
-- off clears nothing."
abbrev pub with_sample : Sample → Registers → Registers
with_sample s r =
    record {
      core = with_flags (raised (alarms_of s.signals) r.core.flags) r.core;
      download = r.download;
      outputs = r.outputs;
      digital = digital_of s.inputs;
      analog = analog_of s.inputs;
      entries = r.entries;
      values = settled (settings s.readings) 8 r.values;
    }

-- "A tick (10 ms) lowers an armed wait's count by one if it is above 0."
abbrev pub with_tick : Registers → Registers
with_tick r =
    record {
      core = with_wait (waits.ticked r.core.wait) r.core;
      download = r.download;
      outputs = r.outputs;
      digital = r.digital;
      analog = r.analog;
      entries = r.entries;
      values = r.values;
    }

unfoldable pub powered_up : List ℕ → Registers → Outcome
powered_up s r = pick (is_parameter_store s) (outcome 100 (powered s)) (outcome 20 r)

unfoldable pub sampled : Sample → Registers → Outcome
sampled s r =
    pick (registers_in_range r) (pick (sample_in_range s) (outcome 100 (with_sample s r)) (outcome 21 r)) (outcome 23 r)

unfoldable pub ticked : Registers → Outcome
ticked r = pick (registers_in_range r) (outcome 100 (with_tick r)) (outcome 23 r)
