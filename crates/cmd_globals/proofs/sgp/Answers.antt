-- `cmd_globals::sgp`.
use Prim.Native.Nat.{ℕ, ◌<◌}
use mathlib.Core.Path.{◌≡◌, refl, sym, ap, ◌∙◌}
use Rattle.status.specs.Status.{is_done}
use Rattle.sheet.specs.Places.{global_in}
use Rattle.settings.specs.Settings.{bank_place, settable}
use Rattle.fields.specs.Fields as fields
use Rattle.fields.specs.Fields.{sgp}
use Rattle.judge.specs.Judge.{judged, is_flow, is_reading}
use Rattle.rules.specs.Assigning.{assign}
use Rattle.rules.specs.Deciding.{decided_by}
use Rattle.reg_image.specs.Image.{registers_of}
use Rattle.cmd_turns.specs.declared.Deed.{Deed}
use Rattle.cmd_turns.specs.Deed.{doing, seen, comes_to}
use Rattle.cmd_axis.proofs.Carries.{carries, right-type}
use Rattle.settings.proofs.Users.{user-place, other-bank}
use Rattle.cmd_globals.proofs.Users.{takes-global, user-assigned, sets-global}
use Rattle.cmd_turns.proofs.Decides.{refuses}
use Rattle.status.specs.declared.Refusal.{Refusal}
use Rattle.std.specs.Prelude.{Result, Err}
use borrow.Author.Rules.{rules}
use Rattle.cmd_globals.proofs.sgp.Goals as goal

pub returns-in_err-sgp : goal.returns-in_err-sgp
unfolding judged sgp
returns-in_err-sgp c a n m =
    let x = c.args in
    let b = x.c.motor in
    let k = x.c.kind in
    let e = c.in_err-sgp.field-0.0 in
    let same : c.from_residual.result ≡ Err e = search rules in
    rw same
    (refuses 9 x.c (seen a n (registers_of x.image.now)) m (fields.is_bank b) (fields.takes b k) (settable (bank_place b k) x.c.value.v)
    refl e c.in_err-sgp.ensures refl)

pub returns-then-c-eq2 : goal.returns-then-c-eq2
unfolding judged sgp doing is_flow is_reading decided_by
returns-then-c-eq2 c a n m =
    let x = c.args in
    let k = x.c.kind in
    let w = x.c.value in
    let r = seen a n (registers_of x.image.now) in
    carries 9 x.c refl refl r m (sym c.in_ok-sgp.ensures)
    (ap (λ (p : ℕ). assign p w r.values) (ap (λ (b : ℕ). bank_place b k) c.if-c-eq2.true ∙ user-place k)
    ∙ user-assigned k w r.values)

pub returns : goal.returns
unfolding judged sgp is_flow is_reading decided_by
returns c a n m =
    let x = c.args in
    let b = x.c.motor in
    let k = x.c.kind in
    let w = x.c.value in
    let r = seen a n (registers_of x.image.now) in
    let low : global_in k < 4 =
    takes-global b k c.if-c-eq2.false
    (right-type (fields.is_bank b) (fields.takes b k) (settable (bank_place b k) w.v) (sym (ap is_done c.in_ok-sgp.ensures))) in
    ap (λ (d : Result Deed Refusal). comes_to d r m) c.set_global.ensures
    ∙ sets-global w r m k low
    ∙ carries 9 x.c refl refl r m (sym c.in_ok-sgp.ensures)
    (ap (λ (p : ℕ). assign p w r.values) (other-bank b k c.if-c-eq2.false))
