-- `cmd_axis::left`.
use borrow.Author.Rules.{rules}
use mathlib.Core.Path.{◌≡◌, refl, sym, ap, ◌∙◌}
use mathlib.Core.Bool.{true}
use Rattle.std.specs.Prelude.{Err}
use Rattle.words.specs.declared.Word.{Word}
use Rattle.values.specs.Values.{value_at}
use Rattle.fields.specs.Fields as fields
use Rattle.judge.specs.Judge.{judged, is_flow, is_reading}
use Rattle.rules.specs.Motion.{parameter, left_within}
use Rattle.rules.specs.Deciding.{decided_by}
use Rattle.reg_image.specs.Image.{registers_of}
use Rattle.cmd_turns.specs.Deed.{doing, seen}
use Rattle.cmd_turns.proofs.Decides.{refuses}
use Rattle.cmd_axis.proofs.Rows.{limit-place}
use Rattle.cmd_axis.proofs.Carries.{carries, left-within, left-beyond}
use mir.Syntax.{w32}
use mir.Val.{SFits}
use mir.ValLaws.{to_z-of_z}
use Rattle.rules.proofs.Limits.{zero-less, negates, back}
use Rattle.cmd_axis.proofs.left.Goals as goal

pub returns-in_err-motor_alone : goal.returns-in_err-motor_alone
unfolding judged
returns-in_err-motor_alone c a n m =
    let e = c.in_err-motor_alone.field-0.0 in
    let same : c.from_residual.result ≡ Err e = search rules in
    rw same (refuses 2 c.args.c (seen a n (registers_of c.args.image.now)) m (fields.motor_zero c.args.c) true true refl e c.in_err-motor_alone.ensures refl)

pub returns-in_err-asked : goal.returns-in_err-asked
unfolding judged doing is_flow is_reading decided_by
returns-in_err-asked c a n m =
    let r = seen a n (registers_of c.args.image.now) in
    let e = c.in_err-asked.field-0.0 in
    let beyond = c.in_err-asked.ensures.beyond in
    let same : c.from_residual-in_err-asked.result ≡ Err e = search rules in
    let limit : parameter 43 r.values ≡ c.get_at.result = ap (value_at r.values) limit-place ∙ sym c.get_at.ensures in
    rw (same, beyond.0)
    (carries 2 c.args.c refl refl r m (sym c.in_ok-motor_alone.ensures)
    (ap (λ (w : Word). left_within w.v c.args.c.value.v) limit ∙ left-beyond _ _ beyond.1))

pub overflow_sub-result : goal.overflow_sub-result
overflow_sub-result c =
    let within = c.in_ok-asked.ensures.within in
    let v = c.in_ok-asked.asked.v in
    let f : SFits w32 v = search rules in
    rw (to_z-of_z w32 v f, zero-less v)
    (negates c.get_at.result.v v (search rules) f (rw within.0 within.1))

pub returns : goal.returns
unfolding judged doing is_flow is_reading decided_by
returns c a n m =
    let r = seen a n (registers_of c.args.image.now) in
    let within = c.in_ok-asked.ensures.within in
    let limit : parameter 43 r.values ≡ c.get_at.result = ap (value_at r.values) limit-place ∙ sym c.get_at.ensures in
    let v = c.in_ok-asked.asked.v in
    let f : SFits w32 v = search rules in
    rw (back c.get_at.result.v v (search rules) f (rw within.0 within.1), within.0)
    (carries 2 c.args.c refl refl r m (sym c.in_ok-motor_alone.ensures)
    (ap (λ (w : Word). left_within w.v c.args.c.value.v) limit ∙ left-within _ _ within.1))
