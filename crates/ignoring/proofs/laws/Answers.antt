-- `ignoring::laws`.
use Rattle.ignoring.proofs.Same as Same
use Rattle.ignoring.proofs.laws.Goals as goal

pub returns : goal.returns
returns c = Same.laws
