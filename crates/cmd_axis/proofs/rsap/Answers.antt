-- `cmd_axis::rsap`.
use Prim.Native.Nat.{ℕ}
use native.Mathlib.Omega.{arith}
use borrow.Author.Rules.{rules}
use mathlib.Core.Path.{◌≡◌, refl, sym, ap, ◌∙◌}
use mathlib.Core.Bool.{true}
use Rattle.std.specs.Prelude.{Err}
use Rattle.words.specs.declared.Word.{Word}
use Rattle.sheet.specs.Sheet.{axis}
use Rattle.settings.proofs.Counts.{axis_rows, place-low}
use Rattle.fields.specs.Fields as fields
use Rattle.judge.specs.Judge.{judged, is_flow, is_reading}
use Rattle.rules.specs.Effects.{Restore}
use Rattle.rules.specs.Deciding.{decided_by}
use Rattle.cmd_turns.specs.declared.Deed.TheVariants.{Set}
use Rattle.cmd_turns.specs.Deed.{doing, seen}
use Rattle.cmd_turns.proofs.Decides.{refuses}
use Rattle.cmd_axis.proofs.Carries.{carries}
use Rattle.cmd_axis.proofs.rsap.Goals as goal

pub returns-in_err-stap : goal.returns-in_err-stap
unfolding judged
returns-in_err-stap c regs a n =
    let e = c.in_err-stap.field-0.0 in
    let same : c.from_residual.result ≡ Err e = search rules in
    rw same (refuses 8 c.args.c (seen a n regs) c.args.store.now (fields.motor_zero c.args.c) (fields.storable c.args.c.kind) true refl e c.in_err-stap.ensures refl)

pub returns : goal.returns
unfolding judged doing is_flow is_reading decided_by
returns c regs a n =
    let p = c.axis_place-place in
    let x = c.args in
    let m = x.store.now in
    let r = seen a n regs in
    let place : c.narrow.result ≡ p.result =
    c.narrow.ensures.0 (omega (arith, p.ensures, place-low axis x.c.kind, axis_rows)) in
    ap (λ (k : ℕ). doing (Set k c.powered_value.result) r m) place
    ∙ ap (λ (w : Word). doing (Set p.result w) r m) c.powered_value.ensures
    ∙ carries 8 x.c refl refl r m (sym c.in_ok-stap.ensures) (ap Restore (sym p.ensures))
