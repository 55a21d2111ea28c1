-- The events on concrete registers, computed. Assumes nothing.
use mathlib.Core.Path.{refl}
use Rattle.words.specs.Bytes.{word_of}
use Rattle.rows.specs.Row.{allowed, taken}
use Rattle.sheet.specs.Rows.{rows, parameters}
use Rattle.sheet.specs.Sheet.{axis, globals, rwe_rows, rw_rows, r_rows}
use Rattle.store.specs.Store.{written, cell_at, put_cell}
use Rattle.values.specs.Values.{values_in_range, powered_at, powered_values}
use Rattle.values.specs.Examples.{default_cells}
use Rattle.ranges.specs.Range.{entries_in_range, bits_in_range, each_up_to}
use Rattle.registers.specs.Range.{core_in_range}
use Rattle.flags.specs.Flags as flags
use Rattle.waits.specs.Waits as waits
use Rattle.sampling.specs.Sample.{settings_in_range, settled, sample_in_range}
use Rattle.board.specs.Registers.{unpowered, powered}
use Rattle.board.specs.Range.{registers_in_range}
use Rattle.rules.specs.Events.{powered_up, sampled, ticked}
use Rattle.promises.specs.Examples.{Examples, begun}

pub examples : Examples
unfolding word_of allowed taken rows parameters axis globals rwe_rows rw_rows r_rows written cell_at put_cell values_in_range powered_at powered_values default_cells core_in_range entries_in_range bits_in_range each_up_to waits.ticked flags.raised settings_in_range settled sample_in_range powered registers_in_range powered_up sampled ticked begun unpowered
examples =
    record {
      default-cells = refl;
      bad-cells = refl;
      autostart = refl;
      no_autostart = refl;
      short_store = refl;
      long_store = refl;
      any_registers = refl;
      sample_51 = refl;
      sample_52 = refl;
      sample_55 = refl;
      sample_211 = refl;
      sample_212 = refl;
      sample_213 = refl;
      sample_220 = refl;
      sample_221 = refl;
      sample_50 = refl;
      sample_digital = refl;
      sample_analog = refl;
      alarm_on = refl;
      alarm_off = refl;
      reached_2 = refl;
      supply_1001 = refl;
      digital_2 = refl;
      analog_65536 = refl;
      alarm_2 = refl;
      tick_5 = refl;
      tick_0 = refl;
      tick_unarmed = refl;
      entry_1024 = refl;
      entry_1025 = refl;
      write_1025 = refl;
      depth_9 = refl;
      flag_2 = refl;
      output_2 = refl;
      first_23 = refl;
      address_1024 = refl;
      address_1025 = refl;
      input_2 = refl;
      input_65536 = refl;
      input_below_0 = refl;
      parameter_102 = refl;
      global_66 = refl;
      user_any = refl;
      count_any = refl;
      unpowered_tick = refl;
      unpowered_power_up = refl;
    }
