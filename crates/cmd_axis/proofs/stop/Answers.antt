use mathlib.Core.Path.{◌≡◌, refl, sym}
use mathlib.Core.Bool.{true}
use borrow.Author.Rules.{rules}
use Rattle.std.specs.Prelude.{Err}
use Rattle.cmd_turns.specs.Deed.{seen, doing}
use Rattle.cmd_turns.proofs.Decides.{refuses}
use Rattle.fields.specs.Fields as fields
use Rattle.rules.specs.Deciding.{decided_by}
use Rattle.judge.specs.Judge.{judged, is_flow, is_reading}
use Rattle.cmd_axis.proofs.Carries.{carries}
use Rattle.cmd_axis.proofs.stop.Goals as goal

pub returns-in_err-motor_alone : goal.returns-in_err-motor_alone
unfolding judged
returns-in_err-motor_alone c regs a n m =
    let e = c.in_err-motor_alone.field-0.0 in
    let same : c.from_residual.result ≡ Err e = search rules in
    rw same (refuses 3 c.args.c (seen a n regs) m (fields.motor_zero c.args.c) true true refl e c.in_err-motor_alone.ensures refl)

pub returns : goal.returns
unfolding doing judged is_flow is_reading decided_by
returns c regs a n m =
    carries 3 c.args.c refl refl (seen a n regs) m (sym c.in_ok-motor_alone.ensures) refl
