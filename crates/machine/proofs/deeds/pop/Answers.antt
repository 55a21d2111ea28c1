-- `machine::deeds::pop`.
use Prim.Native.Nat.{◌<◌, ◌≤◌}
use native.Mathlib.Omega.{arith}
use mathlib.Core.Path.{◌∙◌}
use Rattle.reg_image.specs.Image.{registers_of}
use Rattle.reg_image.proofs.Places.{then}
use Rattle.machine.proofs.Stack.{pop_empty, pop-over, pop-stack, pop-back}
use Rattle.machine.proofs.deeds.pop.Goals as goal

pub returns-then-depth-eq0 : goal.returns-then-depth-eq0
returns-then-depth-eq0 c =
    let d = c.get-depth in
    let p = pop_empty (registers_of c.args.image.now) d.result d.ensures c.if-depth-eq0.true in
    record { address = p.1; leaves = record { makes = p.0; stays = λ t. t } }

pub returns-then-depth-gt8 : goal.returns-then-depth-gt8
returns-then-depth-gt8 c =
    let d = c.get-depth in
    let p = pop-over (registers_of c.args.image.now) d.result d.ensures c.if-depth-gt8.true in
    record { address = p.1; leaves = record { makes = p.0; stays = λ t. t } }

pub returns : goal.returns
returns c =
    let d = c.get-depth in
    let r = registers_of c.args.image.now in
    let h : 0 < d.result = omega (arith, c.if-depth-eq0.false) in
    let k : d.result ≤ 8 = c.if-depth-gt8.false in
    let q = then _ _ _ _ _ c.set_at.ensures c.set.ensures in
    record {
      address = c.get_at-back.ensures ∙ pop-back r d.result d.ensures h k;
      leaves = record { makes = q.makes ∙ pop-stack r d.result d.ensures h k; stays = q.stays };
    }
