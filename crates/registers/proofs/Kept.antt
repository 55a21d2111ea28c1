-- The laws of the registers. Assumes nothing.
use Prim.Native.Nat.{◌-◌}
use mathlib.Core.Path.{refl}
use mathlib.Core.Bool.{Bool, ◌&&◌}
use lib.Dec.{T, leb}
use Rattle.registers.specs.Registers.{with_flags, powered_core}
use Rattle.flags.specs.Flags.{raised}
use Rattle.ranges.specs.Range.{address_in_range, entries_in_range, bits_in_range, each_up_to}
use Rattle.registers.specs.Range.{core_in_range}
use Rattle.flags.specs.Flags.{flags_in_range}
use Rattle.registers.specs.Laws.{Laws}
use Rattle.flags.specs.declared.Alarms.{Alarms}
use Rattle.registers.specs.declared.Core.{Core}
use Rattle.flags.proofs.Raised.{each, raised_in_range}

alarmed_in_range : (a : Alarms) (c : Core) → T (core_in_range c) → T (core_in_range (with_flags (raised a c.flags) c))
unfolding core_in_range
alarmed_in_range a c =
    let low = address_in_range c.address && leb c.depth 8 in
    each low (flags_in_range c.flags) low (flags_in_range (raised a c.flags)) (λ t. t) (raised_in_range a c.flags)

-- ---- power-up
powered-core : (running : Bool) → T (core_in_range (powered_core running))
unfolding core_in_range bits_in_range
powered-core running = tt

pub laws : Laws
unfolding core_in_range entries_in_range bits_in_range each_up_to
laws =
    record {
      powered-core = powered-core;
      powered_download = tt;
      powered_entries = tt;
      powered_outputs = tt;
      powered_digital = tt;
      powered_analog = tt;
      wait_in_range = λ w c. refl;
      alarmed_in_range = alarmed_in_range;
    }
