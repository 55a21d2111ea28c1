-- `dividing::laws`.
use Rattle.dividing.proofs.Together as Together
use Rattle.dividing.proofs.laws.Goals as goal

pub returns : goal.returns
returns c = Together.laws
