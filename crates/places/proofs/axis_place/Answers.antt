-- `places::axis_place`.
use Prim.Native.Nat.{zero-le}
use native.Mathlib.Omega.{arith}
use mathlib.Core.Path.{ap, sym, ◌∙◌}
use Rattle.sheet.specs.Places.{axis_place}
use Rattle.sheet.specs.Sheet.{axis, rwe_rows, rw_rows, r_rows}
use Rattle.places.proofs.Groups.{its-place, past-last}
use Rattle.places.proofs.axis_place.Goals as goal

pub returns-then-number-lt43 : goal.returns-then-number-lt43
returns-then-number-lt43 c = c.from_10.ensures ∙ its-place 0 43 _ zero-le c.if-number-lt43.true

pub returns-then-number-lt140 : goal.returns-then-number-lt140
returns-then-number-lt140 c = c.from_43.ensures ∙ its-place 43 140 _ c.if-number-lt43.false c.if-number-lt140.true

pub returns-then-number-lt209 : goal.returns-then-number-lt209
returns-then-number-lt209 c = c.from_140.ensures ∙ its-place 140 209 _ c.if-number-lt140.false c.if-number-lt209.true

pub returns-then-number-lt240 : goal.returns-then-number-lt240
returns-then-number-lt240 c = c.from_209.ensures ∙ its-place 209 240 _ c.if-number-lt209.false c.if-number-lt240.true

pub returns-then-number-eq240 : goal.returns-then-number-eq240
unfolding axis rwe_rows rw_rows r_rows
returns-then-number-eq240 c = ap axis_place (sym c.if-number-eq240.true)

pub returns-else-number-eq240 : goal.returns-else-number-eq240
returns-else-number-eq240 c =
    let l = c.if-number-lt240.false in
    let e = c.if-number-eq240.false in
    sym (past-last c.args.number (omega arith))
