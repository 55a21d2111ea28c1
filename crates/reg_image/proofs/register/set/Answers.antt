use Rattle.std.proofs.Common.{◌≡◌, true}
use Rattle.reg_image.specs.Image.{number, kinds, takes}
use Rattle.reg_image.proofs.Places.{shaped-set}
use Rattle.reg_image.proofs.register.set.Goals as goal
use lib.ListN.{get_or}

pub returns : goal.returns
returns g c =
    let l = c.args.image.now in
    let v = c.number.result in
    let laws = g.met.R.Register.laws in
    let kept = laws.kept in
    let writes = laws.writes l v c.told-image in
    let taken : takes (get_or kinds g.R.Register.PLACE number) v ≡ true = cc in
    record { makes = cc; stays = rw c.PLACE.ensures (shaped-set l g.R.Register.PLACE v taken) }
