-- `words::laws`: the trips through bits and bytes.
use Rattle.words.proofs.Trips as Trips
use Rattle.words.proofs.laws.Goals as goal

pub returns : goal.returns
returns c = Trips.laws
