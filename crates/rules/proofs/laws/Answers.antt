-- `rules::laws`.
use Rattle.rules.proofs.Counts as Counts
use Rattle.rules.proofs.laws.Goals as goal

pub returns : goal.returns
returns c = Counts.laws
