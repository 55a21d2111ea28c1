-- `cmd_globals::sio`.
use Prim.Native.Nat.{ℕ}
use mathlib.Core.Path.{refl, sym, ap, ◌∙◌}
use lib.Dec.{eqb, leb}
use lib.IntN.{pos}
use Rattle.order.specs.Order.{in_range}
use Rattle.judge.specs.Judge.{judged, is_flow, is_reading}
use Rattle.rules.specs.Effects.{set_output}
use Rattle.rules.specs.Deciding.{decided_by}
use Rattle.cmd_turns.specs.declared.Deed.TheVariants.{Output}
use Rattle.cmd_turns.specs.Deed.{doing, seen}
use Rattle.cmd_axis.proofs.Carries.{carries}
use Rattle.cmd_turns.proofs.Decides.{refuses}
use Rattle.std.specs.Prelude.{Err}
use borrow.Author.Rules.{rules}
use mathlib.Core.Path.{◌≡◌}
use Rattle.cmd_globals.proofs.sio.Goals as goal

pub returns-in_err-sio : goal.returns-in_err-sio
unfolding judged
returns-in_err-sio c regs a n m =
    let x = c.args.c in
    let e = c.in_err-sio.field-0.0 in
    let same : c.from_residual.result ≡ Err e = search rules in
    rw same
    (refuses 14 x (seen a n regs) m (eqb x.motor 2) (leb x.kind 3) (in_range (pos 0) (pos 1) x.value.v)
    refl e c.in_err-sio.ensures refl)

pub returns : goal.returns
unfolding judged doing is_flow is_reading decided_by set_output
returns c regs a n m =
    let x = c.args.c in
    let r = seen a n regs in
    ap (λ (b : ℕ). doing (Output x.kind b) r m) (c.from.ensures ∙ c.bit_of.ensures)
    ∙ carries 14 x refl refl r m (sym c.in_ok-sio.ensures) refl
