-- `numbered::host::clear`.
use lib.IntN.{pos}
use borrow.Author.Rules.{rules}
use Rattle.numbered.proofs.Five.{whole}
use Rattle.numbered.proofs.host.clear.Goals as goal

pub returns : goal.returns
returns c = whole (pos 0) (pos 0) (pos 0) (pos 0) (pos 0) c.args.numbers.now (search (rules, c.told-numbers))
