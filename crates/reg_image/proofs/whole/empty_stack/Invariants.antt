use Rattle.reg_image.specs.Image.{Leaves}
use Rattle.reg_image.proofs.Stack.{with_zeros}
use Rattle.reg_image.proofs.whole.empty_stack.Given as goal

abbrev pub invariant-loop-place : goal.invariant-loop-place
invariant-loop-place l = Leaves (with_zeros l.place) l.initial.image l.image
