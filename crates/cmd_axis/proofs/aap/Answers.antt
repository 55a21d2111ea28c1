-- `cmd_axis::aap`.
use Prim.Native.Nat.{ℕ, ◌<◌}
use borrow.Author.Rules.{rules}
use borrow.Author.Tests.{not-true, not-false}
use mathlib.Core.Path.{◌≡◌, refl, sym, ap, ◌∙◌}
use mathlib.Core.Bool.{true}
use Rattle.std.specs.Prelude.{Err}
use Rattle.status.specs.Status.{is_done}
use Rattle.fields.specs.Fields as fields
use Rattle.judge.specs.Judge.{judged, is_flow, is_reading}
use Rattle.rules.specs.Assigning.{take}
use Rattle.rules.specs.Deciding.{decided_by}
use Rattle.cmd_turns.specs.Deed.{doing, seen}
use Rattle.cmd_turns.proofs.Decides.{refuses}
use Rattle.cmd_axis.proofs.Carries.{carries, right-type, on-axis, sets, taken, not_taken}
use Rattle.cmd_axis.proofs.aap.Goals as goal

pub returns-in_err-aap : goal.returns-in_err-aap
unfolding judged
returns-in_err-aap c regs n m =
    let e = c.in_err-aap.field-0.0 in
    let same : c.from_residual.result ≡ Err e = search rules in
    rw same (refuses 34 c.args.c (seen c.args.accumulator n regs) m (fields.motor_zero c.args.c) (fields.writable c.args.c.kind) true refl e c.in_err-aap.ensures refl)

pub returns-then-not-settable : goal.returns-then-not-settable
unfolding judged doing is_flow is_reading decided_by
returns-then-not-settable c regs n m =
    let s = c.settable in
    let p = c.axis_place-place in
    let w = c.args.accumulator in
    let r = seen w n regs in
    carries 34 c.args.c refl refl r m (sym c.in_ok-aap.ensures)
    (ap (λ (k : ℕ). take k w r.values) (sym p.ensures)
    ∙ not_taken p.result w r.values (sym s.ensures ∙ not-true s.result c.if-not-settable.true-raw))

pub returns : goal.returns
unfolding judged is_flow is_reading decided_by
returns c regs n m =
    let s = c.settable in
    let p = c.axis_place-place in
    let x = c.args.c in
    let w = c.args.accumulator in
    let r = seen w n regs in
    let low : p.result < 43 =
    rw p.ensures
    (on-axis x.kind (right-type (fields.motor_zero x) (fields.writable x.kind) true (sym (ap is_done c.in_ok-aap.ensures)))) in
    rw (c.set_axis.ensures low)
    (sets p.result w r m low
    ∙ carries 34 x refl refl r m (sym c.in_ok-aap.ensures)
    (ap (λ (k : ℕ). take k w r.values) (sym p.ensures)
    ∙ taken p.result w r.values (sym s.ensures ∙ not-false s.result c.if-not-settable.false-raw)))
