-- `registers::laws`.
use Rattle.registers.proofs.Kept as Kept
use Rattle.registers.proofs.laws.Goals as goal

pub returns : goal.returns
returns c = Kept.laws
