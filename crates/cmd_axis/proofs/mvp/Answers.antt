-- `cmd_axis::mvp`.
use borrow.Author.Rules.{rules}
use mathlib.Core.Path.{◌≡◌, refl, sym, ap, ◌∙◌}
use mathlib.Core.Bool.{true}
use lib.Dec.{leb}
use Rattle.std.specs.Prelude.{Err}
use Rattle.words.specs.declared.Word.{Word}
use Rattle.values.specs.Values.{value_at}
use Rattle.fields.specs.Fields as fields
use Rattle.judge.specs.Judge.{judged, is_flow, is_reading}
use Rattle.rules.specs.Motion.{parameter, move_by}
use Rattle.rules.specs.Deciding.{decided_by}
use Rattle.reg_image.specs.Image.{registers_of}
use Rattle.cmd_turns.specs.Deed.{doing, seen}
use Rattle.cmd_turns.proofs.Decides.{refuses}
use Rattle.cmd_axis.proofs.Rows.{actual-place}
use Rattle.cmd_axis.proofs.Carries.{carries, moves, absolute, relative}
use Rattle.cmd_axis.proofs.mvp.Goals as goal

pub returns-in_err-mvp : goal.returns-in_err-mvp
unfolding judged
returns-in_err-mvp c a n m =
    let e = c.in_err-mvp.field-0.0 in
    let same : c.from_residual.result ≡ Err e = search rules in
    rw same (refuses 4 c.args.c (seen a n (registers_of c.args.image.now)) m (fields.motor_zero c.args.c) (leb c.args.c.kind 1) true refl e c.in_err-mvp.ensures refl)

pub returns-then-c-eq0 : goal.returns-then-c-eq0
unfolding judged doing is_flow is_reading decided_by
returns-then-c-eq0 c a n m =
    let r = seen a n (registers_of c.args.image.now) in
    carries 4 c.args.c refl refl r m (sym c.in_ok-mvp.ensures) (absolute c.args.c.value r.values c.args.c.kind c.if-c-eq0.true)

pub returns : goal.returns
unfolding judged is_flow is_reading decided_by
returns c a n m =
    let p = c.get_at in
    let v = c.args.c.value in
    let r = seen a n (registers_of c.args.image.now) in
    let actual : parameter 52 r.values ≡ p.result = ap (value_at r.values) actual-place ∙ sym p.ensures in
    rw c.move_by.ensures
    (moves r m p.result.v v.v
    ∙ carries 4 c.args.c refl refl r m (sym c.in_ok-mvp.ensures)
    (relative v r.values c.args.c.kind c.if-c-eq0.false ∙ ap (λ (w : Word). move_by w.v v.v) actual))
