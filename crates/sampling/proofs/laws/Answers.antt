-- `sampling::laws`.
use Rattle.sampling.proofs.Rules as Rules
use Rattle.sampling.proofs.laws.Goals as goal

pub returns : goal.returns
returns c = Rules.laws
