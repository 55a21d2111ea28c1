-- `places::from_140`.
use mathlib.Core.Path.{sym}
use Rattle.sheet.specs.Sheet.{axis, rwe_rows, rw_rows, r_rows}
use Rattle.sheet.proofs.Keys.{none_of}
use Rattle.places.proofs.Groups.{numbers_in, no-place-in-span}
use Rattle.places.proofs.from_140.Goals as goal

pub returns-in_default : goal.returns-in_default
unfolding axis rwe_rows rw_rows r_rows
returns-in_default c =
    let n = c.args.number in
    sym (no-place-in-span 140 209 n (none_of n (numbers_in 140 209 axis) c.in_default.in_default-own.rest))
