-- `sheet::laws`.
use Rattle.sheet.proofs.Rules as Rules
use Rattle.sheet.proofs.laws.Goals as goal

pub returns : goal.returns
returns c = Rules.laws
