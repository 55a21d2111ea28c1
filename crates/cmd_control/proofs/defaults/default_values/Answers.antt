-- `cmd_control::defaults::default_values`: all before the place are defaults.
use Rattle.std.proofs.Common.{◌≡◌, ℕ, subst, arith}
use Rattle.reg_image.specs.Image.{Leaves}
use Rattle.cmd_control.specs.Defaults.{all_defaulted}
use Rattle.cmd_control.proofs.Defaulting.{none_yet, one_more}
use Rattle.cmd_control.proofs.defaults.default_values.Goals as goal

pub loop-place-init : goal.loop-place-init
loop-place-init c = none_yet _

pub loop-place-preserved : goal.loop-place-preserved
loop-place-preserved c = one_more c.loop-place.place _ _ _ c.loop-place.invariant c.default_value.ensures

pub returns : goal.returns
returns c =
    let e : c.loop-place.place ≡ 103 = omega arith in
    let a = c.args in
    subst (λ (n : ℕ). Leaves (all_defaulted n) a.image.now c.loop-place.image) e c.loop-place.invariant
