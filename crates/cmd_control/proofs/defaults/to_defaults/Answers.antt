-- `cmd_control::defaults::to_defaults`.
use Rattle.rules.specs.Controlling.{defaults}
use Rattle.reg_image.proofs.Places.{then}
use Rattle.cmd_control.proofs.defaults.to_defaults.Goals as goal

pub returns : goal.returns
unfolding defaults
returns c =
    let q = then _ _ _ _ _ c.default_values.ensures c.set_motion.ensures in
    record { makes = q.makes; store = c.reset_cells.ensures; stays = q.stays }
