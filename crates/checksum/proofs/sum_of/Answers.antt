-- `checksum::sum_of`.
use borrow.Author.Rules.{rules}
use Rattle.checksum.proofs.Sums.{one-by-one}
use Rattle.checksum.proofs.sum_of.Goals as goal

pub returns : goal.returns
returns c = one-by-one c.args.bytes.now c.fold.result (search rules)
