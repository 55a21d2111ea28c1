-- `cmd_globals::rsgp`.
use Prim.Native.Nat.{ℕ, ◌+◌, ◌<◌}
use mathlib.Core.Path.{◌≡◌, refl, sym, ap, ◌∙◌}
use mathlib.Core.Bool.{true}
use borrow.Author.Tests.{ltb-true, eqb-true}
use lib.Dec.{eqb, ltb}
use mir.Syntax.{w32}
use mir.Val.{SFits}
use Rattle.words.specs.declared.Word.{Word}
use Rattle.status.specs.Status.{is_done}
use Rattle.store.specs.Store.{cell_at}
use Rattle.settings.specs.Settings.{bank_place}
use Rattle.fields.specs.Fields as fields
use Rattle.judge.specs.Judge.{judged, is_flow, is_reading}
use Rattle.rules.specs.Effects.{Restore}
use Rattle.rules.specs.Deciding.{decided_by}
use Rattle.cmd_turns.specs.declared.Deed.TheVariants.{User}
use Rattle.cmd_turns.specs.Deed.{doing, seen}
use Rattle.cmd_axis.proofs.Carries.{carries, right-motor, right-type}
use Rattle.rules.proofs.Users.{user-powered}
use Rattle.settings.proofs.Users.{user-place}
use borrow.Author.Rules.{rules}
use Rattle.cmd_turns.proofs.Decides.{refuses}
use Rattle.std.specs.Prelude.{Err}
use Rattle.cmd_globals.proofs.rsgp.Goals as goal

pub returns-in_err-stgp : goal.returns-in_err-stgp
unfolding judged
returns-in_err-stgp c regs a n =
    let x = c.args in
    let e = c.in_err-stgp.field-0.0 in
    let same : c.from_residual.result ≡ Err e = search rules in
    rw same
    (refuses 12 x.c (seen a n regs) x.store.now (eqb x.c.motor 2) (ltb x.c.kind 56) true
    refl e c.in_err-stgp.ensures refl)

pub returns : goal.returns
unfolding judged doing is_flow is_reading decided_by
returns c regs a n =
    let v = c.cell_at-value in
    let x = c.args in
    let b = x.c.motor in
    let k = x.c.kind in
    let m = x.store.now in
    let r = seen a n regs in
    let right : is_done (fields.stgp x.c) ≡ true = sym (ap is_done c.in_ok-stgp.ensures) in
    let two : b ≡ 2 = eqb-true b 2 (right-motor (eqb b 2) (ltb k 56) true right) in
    let small : k < 56 = ltb-true k 56 (right-type (eqb b 2) (ltb k 56) true right) in
    let cell : v.result ≡ cell_at m (35 + k) = v.ensures ∙ ap (λ (j : ℕ). cell_at m (35 + j)) c.from.ensures in
    let fits : SFits w32 v.result.v = search rules in
    ap (λ (w : Word). doing (User k w) r m) (cell ∙ user-powered m k small (rw cell at fits))
    ∙ carries 12 x.c refl refl r m (sym c.in_ok-stgp.ensures)
    (ap Restore (ap (λ (b : ℕ). bank_place b k) two ∙ user-place k))
