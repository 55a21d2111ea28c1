-- `flags::laws`.
use Rattle.flags.proofs.Raised as Raised
use Rattle.flags.proofs.laws.Goals as goal

pub returns : goal.returns
returns c = Raised.laws
