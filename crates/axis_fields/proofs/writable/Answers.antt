use Rattle.std.proofs.Common.{arith}
use Rattle.std.proofs.lemmas.Grind.{common_steps}
use Rattle.fields.specs.Fields.{writable}
use Rattle.axis_fields.proofs.writable.Goals as goal

pub returns : goal.returns
unfolding writable
returns c = grind (arith, common_steps)
