-- `wire::laws`.
use Rattle.wire.proofs.Examples as Examples
use Rattle.wire.proofs.Frames as Frames
use Rattle.wire.proofs.laws.Goals as goal

pub returns : goal.returns
returns c = (Frames.laws, Examples.examples)
