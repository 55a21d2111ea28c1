-- `cmd_globals::stgp`.
use Prim.Native.Nat.{ℕ, ◌+◌, ◌<◌}
use mathlib.Core.Path.{◌≡◌, refl, sym, ap, ◌∙◌}
use mathlib.Core.Bool.{true}
use borrow.Author.Tests.{ltb-true, eqb-true}
use lib.Dec.{eqb, ltb}
use Rattle.words.specs.declared.Word.{Word}
use Rattle.status.specs.Status.{is_done}
use Rattle.sheet.specs.Rows.{rows, cell_of}
use Rattle.settings.specs.Settings.{bank_place}
use Rattle.values.specs.Values.{value_at}
use Rattle.fields.specs.Fields as fields
use Rattle.judge.specs.Judge.{judged, is_flow, is_reading}
use Rattle.rules.specs.Assigning.{keep}
use Rattle.rules.specs.Deciding.{decided_by}
use Rattle.reg_image.specs.Image.{registers_of}
use Rattle.cmd_turns.specs.declared.Deed.TheVariants.{Store}
use Rattle.cmd_turns.specs.Deed.{doing, seen}
use Rattle.cmd_axis.proofs.Carries.{carries, right-motor, right-type, locked-out, unlocked}
use Rattle.rules.proofs.Users.{cell-of-user}
use Rattle.settings.proofs.Users.{user-place}
use Rattle.cmd_turns.proofs.Decides.{refuses}
use Rattle.std.specs.Prelude.{Err}
use borrow.Author.Rules.{rules}
use Rattle.cmd_globals.proofs.stgp.Goals as goal

pub returns-in_err-stgp : goal.returns-in_err-stgp
unfolding judged
returns-in_err-stgp c a n m =
    let x = c.args in
    let e = c.in_err-stgp.field-0.0 in
    let same : c.from_residual.result ≡ Err e = search rules in
    rw same
    (refuses 11 x.c (seen a n (registers_of x.image.now)) m (eqb x.c.motor 2) (ltb x.c.kind 56) true
    refl e c.in_err-stgp.ensures refl)

pub returns-then-locked : goal.returns-then-locked
unfolding judged doing is_flow is_reading decided_by
returns-then-locked c a n m =
    let x = c.args in
    let r = seen a n (registers_of x.image.now) in
    carries 11 x.c refl refl r m (sym c.in_ok-stgp.ensures)
    (locked-out _ r.values (sym c.locked.ensures ∙ c.if-locked.true))

pub user_cell-requires : goal.user_cell-requires
user_cell-requires c =
    let x = c.args.c in
    ltb-true x.kind 56
    (right-type (eqb x.motor 2) (ltb x.kind 56) true
    (sym (ap is_done c.in_ok-stgp.ensures)))

pub returns : goal.returns
unfolding judged doing is_flow is_reading decided_by
returns c a n m =
    let v = c.get_at-value in
    let x = c.args in
    let b = x.c.motor in
    let k = x.c.kind in
    let r = seen a n (registers_of x.image.now) in
    let right : is_done (fields.stgp x.c) ≡ true = sym (ap is_done c.in_ok-stgp.ensures) in
    let two : b ≡ 2 = eqb-true b 2 (right-motor (eqb b 2) (ltb k 56) true right) in
    let small : k < 56 = ltb-true k 56 (right-type (eqb b 2) (ltb k 56) true right) in
    let value : v.result ≡ value_at r.values (47 + k) =
    v.ensures ∙ ap (value_at r.values) (c.bank_place.ensures ∙ user-place k) in
    ap (λ (p : ℕ). doing (Store p v.result) r m) (c.user_cell.ensures ∙ cell-of-user k small)
    ∙ ap (λ (w : Word). doing (Store (cell_of rows (47 + k)) w) r m) value
    ∙ carries 11 x.c refl refl r m (sym c.in_ok-stgp.ensures)
    (ap (λ (p : ℕ). keep p r.values) (ap (λ (b : ℕ). bank_place b k) two ∙ user-place k)
    ∙ unlocked (47 + k) r.values (sym c.locked.ensures ∙ c.if-locked.false))
