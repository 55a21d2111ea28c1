-- `law_safety::laws`.
use Rattle.law_safety.proofs.Rules as Rules
use Rattle.law_safety.proofs.laws.Goals as goal

pub returns : goal.returns
returns c = Rules.laws
