-- `board_events::put::alarms`.
use Rattle.std.proofs.Common.{ap, ◌∙◌}
use Rattle.pins.specs.Pins.{alarms_of}
use Rattle.reg_image.specs.Image.{registers_of}
use Rattle.reg_image.proofs.Places.{then}
use Rattle.board_events.specs.Events.{signals_of}
use Rattle.board_events.proofs.Parts.{alarmed-so}
use Rattle.board_events.proofs.put.alarms.Goals as goal

pub returns : goal.returns
returns c =
    let x = c.args in
    let a = c.alarms-alarms.ensures ∙ ap alarms_of c.signals_of.ensures in
    let p = c.raise.ensures in
    let q = c.raise-2.ensures in
    let d = then _ _ _ _ _ (then _ _ _ _ _ p q) c.raise-3.ensures in
    record {
      makes =
          d.makes
          ∙ alarmed-so (registers_of x.image.now) (signals_of x.fields.now) _ _ _
          (simp a) (simp (a, p.makes)) (simp (a, q.makes, p.makes));
      stays = d.stays;
    }
