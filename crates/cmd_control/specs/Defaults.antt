-- Working values on their way to their defaults, place by place.
use Rattle.std.specs.Prelude.{ℕ}
use Rattle.sheet.specs.Rows.{rows}
use Rattle.resetting.specs.Resetting.{reset_value, reset_values}
use Rattle.board.specs.declared.Registers.{Registers}
use Rattle.reg_image.specs.With.{with_values}

abbrev pub defaulted : ℕ → Registers → Registers
defaulted i r = with_values (reset_value rows i r.values) r

-- those of the first n places
abbrev pub all_defaulted : ℕ → Registers → Registers
all_defaulted n r = with_values (reset_values rows n r.values) r
