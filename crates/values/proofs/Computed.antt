-- Power-up on three stores, computed. Assumes nothing.
use mathlib.Core.Path.{refl}
use Rattle.words.specs.Bytes.{word_of}
use Rattle.rows.specs.Row.{allowed, taken}
use Rattle.sheet.specs.Rows.{rows, parameters}
use Rattle.sheet.specs.Sheet.{axis, globals, rwe_rows, rw_rows, r_rows}
use Rattle.store.specs.Store.{written, cell_at, put_cell}
use Rattle.values.specs.Values.{powered_at, powered_values}
use Rattle.values.specs.Examples.{Examples, default_cells}

pub examples : Examples
unfolding word_of allowed taken rows parameters axis globals rwe_rows rw_rows r_rows written cell_at put_cell powered_at powered_values default_cells
examples =
    record {
      default_length = refl;
      default-cells = refl;
      bad_length = refl;
      bad-cells = refl;
      good_10 = refl;
      good_93 = refl;
      good_76 = refl;
      good_user = refl;
      bad_11 = refl;
      bad_14 = refl;
      bad_56 = refl;
      bad_102 = refl;
      bad_105 = refl;
      bad_66 = refl;
      bad_73 = refl;
      unstored = refl;
    }
