-- `text::laws`.
use Rattle.text.proofs.Back as Back
use Rattle.text.proofs.laws.Goals as goal

pub returns : goal.returns
returns c = Back.laws
