-- `waits::laws`.
use Rattle.waits.proofs.Ticks as Ticks
use Rattle.waits.proofs.laws.Goals as goal

pub returns : goal.returns
returns c = Ticks.laws
