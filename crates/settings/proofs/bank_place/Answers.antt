-- `settings::bank_place`.
use native.Mathlib.Omega.{arith}
use mathlib.Core.List.{◌++◌}
use borrow.Author.Tests.{eq-eqb, ne_eqb}
use Rattle.sheet.specs.Sheet.{globals, read_only}
use Rattle.settings.specs.Settings.{bank_place}
use Rattle.settings.proofs.Counts.{axis_rows, parameter_rows, global-rows, place-low}
use Rattle.settings.proofs.bank_place.Goals as goal

pub overflow_add-result-else-bank-eq2 : goal.overflow_add-result-else-bank-eq2
unfolding bank_place
overflow_add-result-else-bank-eq2 c = let h = place-low (globals ++ read_only) c.args.number in let e = c.global_place.ensures in omega (arith, h, e, global-rows)

pub returns-then-bank-eq2 : goal.returns-then-bank-eq2
unfolding bank_place
returns-then-bank-eq2 c = simp (c.from.ensures, eq-eqb _ _ c.if-bank-eq2.true, parameter_rows)

pub returns-else-bank-eq2 : goal.returns-else-bank-eq2
unfolding bank_place
returns-else-bank-eq2 c = simp (c.global_place.ensures, ne_eqb _ _ c.if-bank-eq2.false, axis_rows)
