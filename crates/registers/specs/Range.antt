-- The scalars in range. The others are answered 23: ".. an address, write address .. above 1,024, a depth above 8, or a .. flag out of
-- range".
use Rattle.std.specs.Prelude.{Bool, ◌&&◌, leb}
use Rattle.ranges.specs.Range.{address_in_range}
use Rattle.flags.specs.Flags.{flags_in_range}
use Rattle.registers.specs.declared.Download.{Download}
use Rattle.registers.specs.declared.Core.{Core}

-- address, depth and flags
unfoldable pub core_in_range : Core → Bool
core_in_range c = address_in_range c.address && leb c.depth 8 && flags_in_range c.flags

-- the write address
abbrev pub download_in_range : Download → Bool
download_in_range d = address_in_range d.address
