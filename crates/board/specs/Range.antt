-- "registers handed in with an address, write address or return address above 1,024, a depth above 8, or a parameter, input,
-- output or flag out of range" are answered 23.
use Rattle.std.specs.Prelude.{ℕ, Bool, ◌&&◌, List}
use Rattle.sheet.specs.Rows.{parameters}
use Rattle.values.specs.Values.{values_in_range}
use Rattle.ranges.specs.Range.{entries_in_range, pins_in_range}
use Rattle.registers.specs.Range.{core_in_range, download_in_range}
use Rattle.registers.specs.declared.Core.{Core}
use Rattle.registers.specs.declared.Download.{Download}
use Rattle.board.specs.declared.Registers.{Registers}

-- address, depth and flags; write address; return addresses
abbrev pub addresses_in_range : Core → Download → List ℕ → Bool
addresses_in_range c d e = core_in_range c && download_in_range d && entries_in_range e

unfoldable pub registers_in_range : Registers → Bool
registers_in_range r =
    addresses_in_range r.core r.download r.entries
    && pins_in_range r.outputs r.digital r.analog
    && values_in_range parameters r.values
