-- `text::print::Output::put_number`.
use Rattle.std.proofs.Common.{refl}
use Rattle.text.proofs.Putting.{then-put}
use Rattle.text.proofs.print.Output.put_number.Goals as goal

pub returns : goal.returns
returns c = then-put _ _ _ _ _ _ c.put.ensures c.put_decimal.ensures refl
