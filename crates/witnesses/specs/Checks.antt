-- What the check answers, program by program.
use Rattle.std.specs.Prelude.{replicate}
use Rattle.status.specs.declared.Status.TheVariants.{Unknown, Kind, Value, Unavailable}
use Rattle.points.specs.Points.{first, point}
use Rattle.checking.specs.Check.{Length, Passed, Refused, answer, Checked}
use Rattle.witnesses.specs.Programs.{working, refusing, untaken, deepening, twice, wrong_value, wrong_motor, not_on_sheet, falling}

pub record Checks : Type 0 where
  -- programs that pass
  pub working_passed : Checked working Passed (answer 100 first)
  pub refusing_passed : Checked refusing Passed (answer 100 first)
  -- programs that a bench run passes, and the check does not: the bad record behind the jump, and the ninth nested call
  pub untaken_refused : Checked untaken (Refused (point 2 0) Unknown) (answer 2 (point 2 0))
  pub deepening_refused : Checked deepening (Refused (point 3 8) Unavailable) (answer 6 (point 3 8))
  -- of two bad points the lower one is named, with its status; a value, a motor, a type, and the end of program memory
  pub twice_refused : Checked twice (Refused (point 3 0) Unavailable) (answer 6 (point 3 0))
  pub wrong_value_refused : Checked wrong_value (Refused (point 0 0) Value) (answer 4 (point 0 0))
  pub wrong_motor_refused : Checked wrong_motor (Refused (point 0 0) Value) (answer 4 (point 0 0))
  pub not_on_sheet_refused : Checked not_on_sheet (Refused (point 0 0) Kind) (answer 3 (point 0 0))
  pub falling_refused : Checked falling (Refused (point 1024 0) Value) (answer 4 (point 1024 0))
  -- a store of 1,023 records
  pub short_refused : Checked (replicate 7161 0) Length (answer 20 first)
