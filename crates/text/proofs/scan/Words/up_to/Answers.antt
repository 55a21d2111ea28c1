-- `text::scan::Words::up_to`.
use Rattle.std.proofs.Common.{rules, arith, ◌<◌}
use mir.Syntax.{w64}
use mir.ValLaws.{to_z-of_z}
use Rattle.text.proofs.Reading.{reads_none, reads_some, no_number_up_to, not_up_to, one_up_to, not_unsigned, too_high, high-enough}
use Rattle.text.proofs.scan.Words.up_to.Goals as goal

pub returns-in_err-number-clause-reads : goal.returns-in_err-number-clause-reads
returns-in_err-number-clause-reads c = rw (c.from_residual.ensures, ← c.self.view_is) (reads_none _ _ (no_number_up_to _ c.args.most c.in_err-number.ensures))

pub returns-in_err-amount-clause-reads : goal.returns-in_err-amount-clause-reads
returns-in_err-amount-clause-reads c =
    let e = to_z-of_z w64 c.in_ok-number.number (search rules) in
    let m : c.args.most < 18446744073709551616 = omega (arith, c.ranges.most) in
    let t = not_unsigned c.args.most c.in_ok-number.number _ (rw e at c.try_from.ensures) m c.in_err-amount.ensures.value in
    rw (c.from_residual-in_err-amount.ensures, ← c.self.view_is) (reads_none _ _ (not_up_to _ c.args.most _ _ c.in_ok-number.ensures t))

pub returns-then-most-amount-clause-reads : goal.returns-then-most-amount-clause-reads
returns-then-most-amount-clause-reads c =
    let e = to_z-of_z w64 c.in_ok-number.number (search rules) in
    let t = too_high c.args.most c.in_ok-number.number _ (rw e at c.try_from.ensures) _ c.in_ok-amount.ensures.value c.if-most-amount.true in
    rw (← c.self.view_is) (reads_none _ _ (not_up_to _ c.args.most _ _ c.in_ok-number.ensures t))

pub returns-clause-reads : goal.returns-clause-reads
returns-clause-reads c =
    let e = to_z-of_z w64 c.in_ok-number.number (search rules) in
    let t = high-enough c.args.most c.in_ok-number.number _ (rw e at c.try_from.ensures) _ c.in_ok-amount.ensures.value c.if-most-amount.false in
    rw (← c.self.view_is) (reads_some _ _ _ _ (one_up_to _ c.args.most _ _ c.in_ok-number.ensures _ t))
