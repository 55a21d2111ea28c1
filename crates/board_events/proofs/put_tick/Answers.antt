-- `board_events::put_tick`.
use mathlib.Core.Path.{◌∙◌}
use Rattle.reg_image.specs.Image.{registers_of}
use Rattle.board_events.proofs.Parts.{ticked-so}
use Rattle.board_events.proofs.put_tick.Goals as goal

pub returns : goal.returns
returns c =
    let k = c.set.ensures in
    let l = c.args.image.now in
    let t = c.ticked-later in
    record {
      makes =
          k.makes
          ∙ ticked-so (registers_of l) t.result
          (t.ensures ∙ simp (c.get.ensures, c.get-2.ensures, c.get-3.ensures));
      stays = k.stays;
    }
