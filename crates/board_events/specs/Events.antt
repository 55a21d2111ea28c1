-- What power-up, sample and tick answer: "For the other events 20, then 23 (not at power-up), then 21"; and the cells of a new board.
use Rattle.std.specs.Prelude.{ℕ, List, ℤ, pos, get_or}
use Rattle.words.specs.Word.{pick, word}
use Rattle.store.specs.Store.{is_parameter_store}
use Rattle.sheet.specs.Rows.{rows}
use Rattle.resetting.specs.Resetting.{reset_cells}
use Rattle.pins.specs.declared.Inputs.{Inputs}
use Rattle.pins.specs.declared.Signals.{Signals}
use Rattle.sampling.specs.Sample.{sample_in_range}
use Rattle.sampling.specs.declared.Readings.{Readings}
use Rattle.sampling.specs.declared.Sample.{Sample}
use Rattle.reg_range.specs.Range.{stands}

unfoldable pub tick_status : List ℕ → ℕ
tick_status l = pick (stands l) 100 23

-- power-up has no 23, so the image may hold anything
unfoldable pub power_status : List ℕ → ℕ
power_status s = pick (is_parameter_store s) 100 20

-- ---- "A sample carries ramp and actual position, reached flag, right, left and home switch, supply voltage, temperature, two
-- digital inputs (0/1), three analog inputs (0 to 65,535), three alarms": sixteen fields in this order
abbrev pub readings_of : List ℤ → Readings
readings_of f =
    record {
      ramp_position = get_or f 0 (pos 0);
      actual_position = get_or f 1 (pos 0);
      reached = get_or f 2 (pos 0);
      right = get_or f 3 (pos 0);
      left = get_or f 4 (pos 0);
      home = get_or f 5 (pos 0);
      supply_voltage = get_or f 6 (pos 0);
      temperature = get_or f 7 (pos 0);
    }

abbrev pub inputs_of : List ℤ → Inputs
inputs_of f =
    record {
      digital_0 = word (get_or f 8 (pos 0));
      digital_1 = word (get_or f 9 (pos 0));
      analog_0 = get_or f 10 (pos 0);
      analog_1 = get_or f 11 (pos 0);
      analog_2 = get_or f 12 (pos 0);
    }

abbrev pub signals_of : List ℤ → Signals
signals_of f =
    record { eal = word (get_or f 13 (pos 0)); edv = word (get_or f 14 (pos 0)); epo = word (get_or f 15 (pos 0)) }

abbrev pub sample_of : List ℤ → Sample
sample_of f = record { readings = readings_of f; inputs = inputs_of f; signals = signals_of f }

unfoldable pub sample_status : List ℤ → List ℕ → ℕ
sample_status f l = pick (stands l) (pick (sample_in_range (sample_of f)) 100 21) 23

-- ---- the cells of a new board: the default in each
pub record Cells : Type 0 where
  pub cells : List ℕ
  pub status : ℕ

abbrev pub cells_left : ℕ → List ℕ → Cells
cells_left n s = record { cells = s; status = n }

unfoldable pub new_cells : List ℕ → Cells
new_cells s = pick (is_parameter_store s) (cells_left 100 (reset_cells rows 103 s)) (cells_left 20 s)
