-- `cmd_axis::sap`.
use Prim.Native.Nat.{ℕ, ◌<◌}
use borrow.Author.Rules.{rules}
use mathlib.Core.Path.{◌≡◌, refl, sym, ap, ◌∙◌}
use Rattle.std.specs.Prelude.{Err}
use Rattle.status.specs.Status.{is_done}
use Rattle.sheet.specs.Places.{axis_place}
use Rattle.settings.specs.Settings.{settable}
use Rattle.fields.specs.Fields as fields
use Rattle.fields.specs.Fields.{sap}
use Rattle.judge.specs.Judge.{judged, is_flow, is_reading}
use Rattle.rules.specs.Assigning.{assign}
use Rattle.rules.specs.Deciding.{decided_by}
use Rattle.cmd_turns.specs.Deed.{seen}
use Rattle.cmd_turns.proofs.Decides.{refuses}
use Rattle.cmd_axis.proofs.Carries.{carries, right-type, on-axis, sets}
use Rattle.cmd_axis.proofs.sap.Goals as goal

pub returns-in_err-sap : goal.returns-in_err-sap
unfolding judged sap
returns-in_err-sap c regs a n m =
    let e = c.in_err-sap.field-0.0 in
    let same : c.from_residual.result ≡ Err e = search rules in
    rw same (refuses 5 c.args.c (seen a n regs) m (fields.motor_zero c.args.c) (fields.writable c.args.c.kind) (settable (axis_place c.args.c.kind) c.args.c.value.v) refl e c.in_err-sap.ensures refl)

pub returns : goal.returns
unfolding judged sap is_flow is_reading decided_by
returns c regs a n m =
    let p = c.axis_place in
    let x = c.args.c in
    let r = seen a n regs in
    let low : p.result < 43 =
    rw p.ensures
    (on-axis x.kind
    (right-type (fields.motor_zero x) (fields.writable x.kind) (settable (axis_place x.kind) x.value.v) (sym (ap is_done c.in_ok-sap.ensures)))) in
    rw (c.set_axis.ensures low)
    (sets p.result x.value r m low
    ∙ carries 5 x refl refl r m (sym c.in_ok-sap.ensures) (ap (λ (k : ℕ). assign k x.value r.values) (sym p.ensures)))
