-- `text::print::spell`.
use Rattle.std.proofs.Common.{arith, ap}
use Rattle.text.specs.Put.{digits_before, decimal}
use Rattle.text.proofs.Putting.{no_text}
use Rattle.text.proofs.print.spell.Goals as goal

pub loop-at-init : goal.loop-at-init
unfolding decimal
loop-at-init c = (omega arith, c.told-text, ap (digits_before 20 c.args.n) (no_text c.args.text.now 20 (omega (arith, c.told-text))))
