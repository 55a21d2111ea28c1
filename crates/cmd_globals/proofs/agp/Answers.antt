-- `cmd_globals::agp`.
use Prim.Native.Nat.{ℕ, ◌+◌, ◌<◌}
use mathlib.Core.Path.{◌≡◌, refl, sym, ap, ◌∙◌}
use mathlib.Core.Bool.{true}
use borrow.Author.Tests.{not-true, not-false}
use mir.Syntax.{w32}
use mir.Val.{SFits}
use Rattle.status.specs.Status.{is_done}
use Rattle.sheet.specs.Places.{global_in}
use Rattle.settings.specs.Settings.{bank_place, settable}
use Rattle.fields.specs.Fields as fields
use Rattle.judge.specs.Judge.{judged, is_flow, is_reading}
use Rattle.rules.specs.Assigning.{take}
use Rattle.rules.specs.Deciding.{decided_by}
use Rattle.reg_image.specs.Image.{registers_of}
use Rattle.cmd_turns.specs.declared.Deed.{Deed}
use Rattle.cmd_turns.specs.Deed.{doing, seen, comes_to}
use Rattle.cmd_axis.proofs.Carries.{carries, right-type, taken, not_taken}
use Rattle.settings.proofs.Users.{user-place, other-bank, user-settable}
use Rattle.cmd_globals.proofs.Users.{takes-global, user-assigned, sets-global}
use borrow.Author.Rules.{rules}
use Rattle.cmd_turns.proofs.Decides.{refuses}
use Rattle.status.specs.declared.Refusal.{Refusal}
use Rattle.std.specs.Prelude.{Result, Err}
use Rattle.cmd_globals.proofs.agp.Goals as goal

pub returns-in_err-agp : goal.returns-in_err-agp
unfolding judged
returns-in_err-agp c n m =
    let x = c.args in
    let b = x.c.motor in
    let e = c.in_err-agp.field-0.0 in
    let same : c.from_residual.result ≡ Err e = search rules in
    rw same
    (refuses 35 x.c (seen x.accumulator n (registers_of x.image.now)) m (fields.is_bank b) (fields.takes b x.c.kind) true
    refl e c.in_err-agp.ensures refl)

pub returns-then-c-eq2 : goal.returns-then-c-eq2
unfolding judged doing is_flow is_reading decided_by
returns-then-c-eq2 c n m =
    let x = c.args in
    let k = x.c.kind in
    let w = x.accumulator in
    let r = seen w n (registers_of x.image.now) in
    let f : SFits w32 w.v = search rules in
    carries 35 x.c refl refl r m (sym c.in_ok-agp.ensures)
    (ap (λ (p : ℕ). take p w r.values) (ap (λ (b : ℕ). bank_place b k) c.if-c-eq2.true ∙ user-place k)
    ∙ taken (47 + k) w r.values (user-settable k w.v f)
    ∙ user-assigned k w r.values)

pub returns-then-not-settable : goal.returns-then-not-settable
unfolding judged doing is_flow is_reading decided_by
returns-then-not-settable c n m =
    let s = c.settable in
    let p = c.bank_place in
    let x = c.args in
    let w = x.accumulator in
    let r = seen w n (registers_of x.image.now) in
    carries 35 x.c refl refl r m (sym c.in_ok-agp.ensures)
    (ap (λ (p : ℕ). take p w r.values) (other-bank x.c.motor x.c.kind c.if-c-eq2.false ∙ sym p.ensures)
    ∙ not_taken p.result w r.values (sym s.ensures ∙ not-true s.result c.if-not-settable.true-raw))

pub returns : goal.returns
unfolding judged is_flow is_reading decided_by
returns c n m =
    let s = c.settable in
    let p = c.bank_place in
    let x = c.args in
    let b = x.c.motor in
    let k = x.c.kind in
    let w = x.accumulator in
    let r = seen w n (registers_of x.image.now) in
    let low : global_in k < 4 =
    takes-global b k c.if-c-eq2.false
    (right-type (fields.is_bank b) (fields.takes b k) true (sym (ap is_done c.in_ok-agp.ensures))) in
    let may : settable (bank_place 0 k) w.v ≡ true =
    ap (λ (p : ℕ). settable p w.v) (sym p.ensures) ∙ sym s.ensures ∙ not-false s.result c.if-not-settable.false-raw in
    ap (λ (d : Result Deed Refusal). comes_to d r m) c.set_global.ensures
    ∙ sets-global w r m k low
    ∙ carries 35 x.c refl refl r m (sym c.in_ok-agp.ensures)
    (ap (λ (p : ℕ). take p w r.values) (other-bank b k c.if-c-eq2.false) ∙ taken (bank_place 0 k) w r.values may)
