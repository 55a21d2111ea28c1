-- `resetting::laws`.
use Rattle.resetting.proofs.Rules as Rules
use Rattle.resetting.proofs.laws.Goals as goal

pub returns : goal.returns
returns c = Rules.laws
