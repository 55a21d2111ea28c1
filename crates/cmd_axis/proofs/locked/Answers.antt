-- `cmd_axis::locked`.
use Rattle.settings.specs.Settings.{locked}
use Rattle.settings.proofs.Users.{lock-place}
use Rattle.cmd_axis.proofs.locked.Goals as goal

pub returns : goal.returns
unfolding locked
returns c = simp (c.equals.ensures, c.get_at.ensures, lock-place)
