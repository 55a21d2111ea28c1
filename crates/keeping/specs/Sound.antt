-- A state whose registers are in range.
use Rattle.std.specs.Prelude.{◌≡◌, true, length}
use Rattle.sheet.specs.Rows.{parameters}
use Rattle.values.specs.Values.{values_in_range}
use Rattle.ranges.specs.Range.{entries_in_range, bits_in_range}
use Rattle.registers.specs.Range.{core_in_range}
use Rattle.rules.specs.Step.{State}

pub record Sound (x : State) : Type 0 where
  pub core : core_in_range x.core ≡ true
  pub entries : entries_in_range x.entries ≡ true
  pub values : values_in_range parameters x.values ≡ true
  pub size : length x.values ≡ 103
  pub outputs : bits_in_range x.outputs ≡ true
