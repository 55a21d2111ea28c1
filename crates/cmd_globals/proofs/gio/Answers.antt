-- `cmd_globals::gio`.
use Prim.Native.Nat.{ℕ}
use mathlib.Core.Path.{refl, sym, ap, ◌∙◌}
use mathlib.Core.Bool.{true}
use lib.Dec.{leb}
use Rattle.words.specs.declared.Word.{Word}
use Rattle.fields.specs.Fields as fields
use Rattle.judge.specs.Judge.{judged, is_flow, is_reading}
use Rattle.rules.specs.Reading.{read, port}
use Rattle.reg_image.specs.Image.{registers_of}
use Rattle.cmd_turns.specs.declared.Deed.TheVariants.{Number}
use Rattle.cmd_turns.specs.Deed.{doing, seen}
use Rattle.cmd_axis.proofs.Carries.{loads}
use Rattle.cmd_turns.proofs.Decides.{refuses}
use Rattle.std.specs.Prelude.{Err}
use borrow.Author.Rules.{rules}
use mathlib.Core.Path.{◌≡◌}
use Rattle.cmd_globals.proofs.gio.Goals as goal

pub returns-in_err-gio : goal.returns-in_err-gio
unfolding judged
returns-in_err-gio c a n m =
    let x = c.args in
    let b = x.c.motor in
    let e = c.in_err-gio.field-0.0 in
    let same : c.from_residual.result ≡ Err e = search rules in
    rw same
    (refuses 15 x.c (seen a n (registers_of x.image.now)) m (leb b 2) (leb x.c.kind (fields.last_port b)) true
    refl e c.in_err-gio.ensures refl)

pub returns : goal.returns
unfolding judged is_flow is_reading read
returns c a n m =
    let x = c.args in
    let r = seen a n (registers_of x.image.now) in
    ap (λ (w : Word). doing (Number w) r m)
    (c.port_word.ensures ∙ ap (λ (p : ℕ). port x.c.motor p r.outputs r.digital r.analog) c.from.ensures)
    ∙ loads 15 x.c r m refl refl (sym c.in_ok-gio.ensures)
