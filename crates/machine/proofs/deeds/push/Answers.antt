-- `machine::deeds::push`.
use mathlib.Core.Path.{◌∙◌}
use Rattle.reg_image.specs.Image.{registers_of}
use Rattle.reg_image.proofs.Places.{then}
use Rattle.machine.proofs.Stack.{push-none, push-some}
use Rattle.machine.proofs.deeds.push.Goals as goal

pub returns-then-depth-lt8 : goal.returns-then-depth-lt8
returns-then-depth-lt8 c =
    let d = c.get-depth in
    let x = c.args in
    let q = then _ _ _ _ _ c.set_at.ensures c.set.ensures in
    record {
      makes = q.makes ∙ push-some (registers_of x.image.now) d.result d.ensures x.back c.if-depth-lt8.true;
      stays = q.stays;
    }

pub returns-else-depth-lt8 : goal.returns-else-depth-lt8
returns-else-depth-lt8 c =
    let d = c.get-depth in
    let x = c.args in
    record { makes = push-none (registers_of x.image.now) d.result d.ensures x.back c.if-depth-lt8.false; stays = λ t. t }
