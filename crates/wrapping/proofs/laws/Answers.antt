-- `wrapping::laws`.
use Rattle.wrapping.proofs.Wraps as Wraps
use Rattle.wrapping.proofs.laws.Goals as goal

pub returns : goal.returns
returns c = Wraps.laws
