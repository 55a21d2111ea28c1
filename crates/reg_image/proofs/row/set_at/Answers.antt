use Rattle.std.proofs.Common.{◌≡◌, true}
use Rattle.reg_image.specs.Image.{number, kinds, takes}
use Rattle.reg_image.proofs.Places.{shaped-set}
use Rattle.reg_image.proofs.row.set_at.Goals as goal
use lib.ListN.{get_or}

pub returns-in-Some : goal.returns-in-Some
returns-in-Some g c =
    let l = c.args.image.now in
    let i = c.args.index in
    let p = c.in-Some.place in
    let v = c.number.result in
    let laws = g.met.R.Row.laws in
    let at = c.in-Some.ensures in
    let kept = laws.kept i p (cc) in
    let writes = laws.writes i p l v (cc) c.told-image in
    let taken : takes (get_or kinds p number) v ≡ true = cc in
    record { makes = cc; stays = shaped-set l p v taken }
