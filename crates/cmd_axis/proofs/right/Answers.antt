-- `cmd_axis::right`.
use borrow.Author.Rules.{rules}
use mathlib.Core.Path.{◌≡◌, refl, sym, ap, ◌∙◌}
use mathlib.Core.Bool.{true}
use Rattle.std.specs.Prelude.{Err}
use Rattle.words.specs.declared.Word.{Word}
use Rattle.values.specs.Values.{value_at}
use Rattle.fields.specs.Fields as fields
use Rattle.judge.specs.Judge.{judged, is_flow, is_reading}
use Rattle.rules.specs.Motion.{parameter, right_within}
use Rattle.rules.specs.Deciding.{decided_by}
use Rattle.reg_image.specs.Image.{registers_of}
use Rattle.cmd_turns.specs.Deed.{doing, seen}
use Rattle.cmd_turns.proofs.Decides.{refuses}
use Rattle.cmd_axis.proofs.Rows.{limit-place}
use Rattle.cmd_axis.proofs.Carries.{carries, right-within, right-beyond}
use Rattle.cmd_axis.proofs.right.Goals as goal

pub returns-in_err-motor_alone : goal.returns-in_err-motor_alone
unfolding judged
returns-in_err-motor_alone c a n m =
    let e = c.in_err-motor_alone.field-0.0 in
    let same : c.from_residual.result ≡ Err e = search rules in
    rw same (refuses 1 c.args.c (seen a n (registers_of c.args.image.now)) m (fields.motor_zero c.args.c) true true refl e c.in_err-motor_alone.ensures refl)

pub returns-in_err-velocity : goal.returns-in_err-velocity
unfolding judged doing is_flow is_reading decided_by
returns-in_err-velocity c a n m =
    let r = seen a n (registers_of c.args.image.now) in
    let e = c.in_err-velocity.field-0.0 in
    let beyond = c.in_err-velocity.ensures.beyond in
    let same : c.from_residual-in_err-velocity.result ≡ Err e = search rules in
    let limit : parameter 43 r.values ≡ c.get_at.result = ap (value_at r.values) limit-place ∙ sym c.get_at.ensures in
    rw (same, beyond.0)
    (carries 1 c.args.c refl refl r m (sym c.in_ok-motor_alone.ensures)
    (ap (λ (w : Word). right_within w.v c.args.c.value.v) limit ∙ right-beyond _ _ beyond.1))

pub returns : goal.returns
unfolding judged doing is_flow is_reading decided_by
returns c a n m =
    let r = seen a n (registers_of c.args.image.now) in
    let within = c.in_ok-velocity.ensures.within in
    let limit : parameter 43 r.values ≡ c.get_at.result = ap (value_at r.values) limit-place ∙ sym c.get_at.ensures in
    rw within.0
    (carries 1 c.args.c refl refl r m (sym c.in_ok-motor_alone.ensures)
    (ap (λ (w : Word). right_within w.v c.args.c.value.v) limit ∙ right-within _ _ within.1))
