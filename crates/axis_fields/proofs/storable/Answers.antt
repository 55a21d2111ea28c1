use Rattle.std.proofs.Common.{arith}
use Rattle.std.proofs.lemmas.Grind.{common_steps}
use Rattle.fields.specs.Fields.{storable}
use Rattle.axis_fields.proofs.storable.Goals as goal

pub returns : goal.returns
unfolding storable
returns c = grind (arith, common_steps)
