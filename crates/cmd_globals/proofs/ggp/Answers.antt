-- `cmd_globals::ggp`.
use mathlib.Core.Path.{refl, sym, ap, ◌∙◌}
use mathlib.Core.Bool.{true}
use Rattle.words.specs.declared.Word.{Word}
use Rattle.fields.specs.Fields as fields
use Rattle.judge.specs.Judge.{judged, is_flow, is_reading}
use Rattle.rules.specs.Reading.{read, global}
use Rattle.reg_image.specs.Image.{registers_of}
use Rattle.cmd_turns.specs.declared.Deed.TheVariants.{Number}
use Rattle.cmd_turns.specs.Deed.{doing, seen}
use Rattle.cmd_axis.proofs.Carries.{loads}
use Rattle.cmd_turns.proofs.Decides.{refuses}
use Rattle.std.specs.Prelude.{Err}
use borrow.Author.Rules.{rules}
use mathlib.Core.Path.{◌≡◌}
use Rattle.cmd_globals.proofs.ggp.Goals as goal

pub returns-in_err-ggp : goal.returns-in_err-ggp
unfolding judged
returns-in_err-ggp c a m =
    let x = c.args in
    let b = x.c.motor in
    let e = c.in_err-ggp.field-0.0 in
    let same : c.from_residual.result ≡ Err e = search rules in
    rw same
    (refuses 10 x.c (seen a x.address (registers_of x.image.now)) m (fields.is_bank b) (fields.has b x.c.kind) true
    refl e c.in_err-ggp.ensures refl)

pub returns : goal.returns
unfolding judged is_flow is_reading read global
returns c a m =
    let x = c.args in
    let r = seen a x.address (registers_of x.image.now) in
    ap (λ (w : Word). doing (Number w) r m) c.global_word.ensures
    ∙ loads 10 x.c r m refl refl (sym c.in_ok-ggp.ensures)
