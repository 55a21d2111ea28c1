-- `stack::laws`.
use Rattle.stack.proofs.Entries as Entries
use Rattle.stack.proofs.laws.Goals as goal

pub returns : goal.returns
returns c = Entries.laws
