-- `values::laws`.
use Rattle.values.proofs.Computed as Computed
use Rattle.values.proofs.Rules as Rules
use Rattle.values.proofs.laws.Goals as goal

pub returns : goal.returns
returns c = (Rules.laws, Computed.examples)
