-- `table::laws`.
use Rattle.table.proofs.Computed as Computed
use Rattle.table.proofs.laws.Goals as goal

pub returns : goal.returns
returns c = (Computed.table, Computed.examples)
