-- `store::laws`.
use Rattle.store.proofs.Places as Places
use Rattle.store.proofs.laws.Goals as goal

pub returns : goal.returns
returns c = Places.laws
