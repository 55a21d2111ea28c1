-- `cmd_axis::stap`.
use Prim.Native.Nat.{ℕ}
use native.Mathlib.Omega.{arith}
use borrow.Author.Rules.{rules}
use mathlib.Core.Path.{◌≡◌, refl, sym, ap, ◌∙◌}
use mathlib.Core.Bool.{true}
use Rattle.std.specs.Prelude.{Err}
use Rattle.words.specs.declared.Word.{Word}
use Rattle.sheet.specs.Sheet.{axis}
use Rattle.sheet.specs.Rows.{rows, cell_of}
use Rattle.settings.proofs.Counts.{axis_rows, place-low}
use Rattle.fields.specs.Fields as fields
use Rattle.judge.specs.Judge.{judged, is_flow, is_reading}
use Rattle.rules.specs.Assigning.{keep}
use Rattle.rules.specs.Deciding.{decided_by}
use Rattle.reg_image.specs.Image.{registers_of}
use Rattle.cmd_turns.specs.declared.Deed.TheVariants.{Store}
use Rattle.cmd_turns.specs.Deed.{doing, seen}
use Rattle.cmd_turns.proofs.Decides.{refuses}
use Rattle.cmd_axis.proofs.Rows.{cell-low}
use Rattle.cmd_axis.proofs.Carries.{carries, locked-out, unlocked}
use Rattle.cmd_axis.proofs.stap.Goals as goal

pub returns-in_err-stap : goal.returns-in_err-stap
unfolding judged
returns-in_err-stap c a n m =
    let e = c.in_err-stap.field-0.0 in
    let same : c.from_residual.result ≡ Err e = search rules in
    rw same (refuses 7 c.args.c (seen a n (registers_of c.args.image.now)) m (fields.motor_zero c.args.c) (fields.storable c.args.c.kind) true refl e c.in_err-stap.ensures refl)

pub returns-then-locked : goal.returns-then-locked
unfolding judged doing is_flow is_reading decided_by
returns-then-locked c a n m =
    let r = seen a n (registers_of c.args.image.now) in
    carries 7 c.args.c refl refl r m (sym c.in_ok-stap.ensures) (locked-out _ r.values (sym c.locked.ensures ∙ c.if-locked.true))

pub returns : goal.returns
unfolding judged doing is_flow is_reading decided_by
returns c a n m =
    let e = c.cell_of in
    let p = c.axis_place-place in
    let x = c.args in
    let r = seen a n (registers_of c.args.image.now) in
    let cell : c.narrow.result ≡ cell_of rows p.result =
    c.narrow.ensures.0
    (omega (arith, e.ensures, cell-low rows p.result, p.ensures, place-low axis x.c.kind, axis_rows))
    ∙ e.ensures in
    ap (λ (s : ℕ). doing (Store s c.get_at-value.result) r m) cell
    ∙ ap (λ (w : Word). doing (Store (cell_of rows p.result) w) r m) c.get_at-value.ensures
    ∙ carries 7 x.c refl refl r m (sym c.in_ok-stap.ensures)
    (ap (λ (c : ℕ). keep c r.values) (sym p.ensures)
    ∙ unlocked p.result r.values (sym c.locked.ensures ∙ c.if-locked.false))
