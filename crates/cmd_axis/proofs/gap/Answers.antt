-- `cmd_axis::gap`.
use borrow.Author.Rules.{rules}
use mathlib.Core.Path.{◌≡◌, refl, sym, ap, ◌∙◌}
use mathlib.Core.Bool.{true}
use Rattle.std.specs.Prelude.{Err}
use Rattle.words.specs.declared.Word.{Word}
use Rattle.status.specs.declared.Status.TheVariants.{Done}
use Rattle.values.specs.Values.{value_at}
use Rattle.fields.specs.Fields as fields
use Rattle.judge.specs.Judge.{judged, is_flow, is_reading}
use Rattle.rules.specs.Reading.{read}
use Rattle.reg_image.specs.Image.{registers_of}
use Rattle.reg_image.specs.With.{in_core, with_accumulator}
use Rattle.cmd_turns.specs.Turn.{on, through}
use Rattle.cmd_turns.specs.Deed.{doing, seen}
use Rattle.cmd_turns.proofs.Decides.{refuses, passes}
use Rattle.cmd_axis.proofs.gap.Goals as goal

pub returns-in_err-gap : goal.returns-in_err-gap
unfolding judged
returns-in_err-gap c a n m =
    let e = c.in_err-gap.field-0.0 in
    let same : c.from_residual.result ≡ Err e = search rules in
    rw same (refuses 6 c.args.c (seen a n (registers_of c.args.image.now)) m (fields.motor_zero c.args.c) (fields.readable c.args.c.kind) true refl e c.in_err-gap.ensures refl)

pub returns : goal.returns
unfolding judged doing through is_flow is_reading read
returns c a n m =
    let p = c.axis_place in
    let r = seen a n (registers_of c.args.image.now) in
    ap (λ (w : Word). on Done (in_core (with_accumulator w) r) m) (c.get_at.ensures ∙ ap (value_at r.values) p.ensures)
    ∙ sym (passes 6 c.args.c r m (sym c.in_ok-gap.ensures))
