-- `cmd_flow::is_on`.

use Rattle.waiting.specs.Waiting.{is_on}
use Rattle.cmd_flow.proofs.is_on.Goals as goal

pub returns : goal.returns
unfolding is_on
returns c = simp (c.equals.ensures, c.get_at.ensures, c.axis_place.ensures)
