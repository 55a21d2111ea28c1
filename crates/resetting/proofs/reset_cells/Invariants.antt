-- `resetting::reset_cells`: all before the place are reset.
use mathlib.Core.Path.{◌≡◌}
use Rattle.sheet.specs.Rows.{rows}
use Rattle.resetting.specs.Resetting.{reset_cells}
use Rattle.resetting.proofs.reset_cells.Given as goal

abbrev pub invariant-loop-place : goal.invariant-loop-place
invariant-loop-place l = l.store ≡ reset_cells rows l.place l.initial.store
