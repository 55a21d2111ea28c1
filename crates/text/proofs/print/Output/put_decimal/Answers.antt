-- `text::print::Output::put_decimal`.
use Rattle.std.proofs.Common.{sym}
use Rattle.text.proofs.Putting.{same-put, one_digit}
use Rattle.text.proofs.print.Output.put_decimal.Goals as goal

pub returns-then-n-lt10 : goal.returns-then-n-lt10
returns-then-n-lt10 c = same-put _ _ _ _ c.put.ensures (sym (one_digit c.args.n c.if-n-lt10.true))
