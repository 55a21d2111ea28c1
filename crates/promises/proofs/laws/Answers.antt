-- `promises::laws`.
use Rattle.promises.proofs.Computed as Computed
use Rattle.promises.proofs.Refusals as Refusals
use Rattle.promises.proofs.Rules as Rules
use Rattle.promises.proofs.laws.Goals as goal

pub returns : goal.returns
returns c = (Rules.laws, Refusals.commands, Computed.examples)
