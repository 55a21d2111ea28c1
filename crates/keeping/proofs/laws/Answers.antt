-- `keeping::laws`.
use Rattle.keeping.proofs.Rules as Rules
use Rattle.keeping.proofs.laws.Goals as goal

pub returns : goal.returns
returns c = Rules.laws
