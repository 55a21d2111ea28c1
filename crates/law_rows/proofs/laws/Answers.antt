-- `law_rows::laws`.
use Rattle.law_rows.proofs.Rules as Rules
use Rattle.law_rows.proofs.laws.Goals as goal

pub returns : goal.returns
returns c = Rules.laws
