-- `cmd_control::defaults::default_values`: all before the place are defaults.
use Rattle.reg_image.specs.Image.{Leaves}
use Rattle.cmd_control.specs.Defaults.{all_defaulted}
use Rattle.cmd_control.proofs.defaults.default_values.Given as goal

abbrev pub invariant-loop-place : goal.invariant-loop-place
invariant-loop-place l = Leaves (all_defaulted l.place) l.initial.image l.image
