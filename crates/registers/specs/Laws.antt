-- What a user of the registers relies on.
use Rattle.std.specs.Prelude.{◌-◌, ◌≡◌, Bool, T, pos, replicate}
use Rattle.registers.specs.Registers.{with_wait, with_flags, powered_core, no_download}
use Rattle.flags.specs.Flags.{raised}
use Rattle.ranges.specs.Range.{entries_in_range, bits_in_range, analog_in_range}
use Rattle.registers.specs.Range.{core_in_range, download_in_range}
use Rattle.flags.specs.declared.Alarms.{Alarms}
use Rattle.waits.specs.declared.Wait.{Wait}
use Rattle.registers.specs.declared.Core.{Core}

pub record Laws : Type 0 where
  -- what power-up leaves is in range: the core, running or not, no download, eight return addresses, four outputs, two digital
  -- and three analog inputs
  pub powered-core : (running : Bool) → T (core_in_range (powered_core running))
  pub powered_download : T (download_in_range no_download)
  pub powered_entries : T (entries_in_range (replicate 8 0))
  pub powered_outputs : T (bits_in_range (replicate 4 0))
  pub powered_digital : T (bits_in_range (replicate 2 0))
  pub powered_analog : T (analog_in_range (replicate 3 (pos 0)))
  -- no wait is out of range
  pub wait_in_range : (w : Wait) (c : Core) → core_in_range (with_wait w c) ≡ core_in_range c
  -- no alarm brings registers out of range
  pub alarmed_in_range : (a : Alarms) (c : Core) → T (core_in_range c) → T (core_in_range (with_flags (raised a c.flags) c))
