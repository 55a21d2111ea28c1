-- `board_events::put::inputs`.
use mathlib.Core.Path.{ap, ◌∙◌}
use Rattle.words.specs.declared.Word.{Word}
use Rattle.pins.specs.Pins.{bit_of}
use Rattle.reg_image.specs.Image.{registers_of}
use Rattle.reg_image.proofs.Places.{then}
use Rattle.board_events.specs.Events.{inputs_of}
use Rattle.board_events.proofs.Parts.{inputs-so, digital-length, analog-length}
use Rattle.board_events.proofs.put.inputs.Goals as goal

pub returns : goal.returns
returns c =
    let x = c.args in
    let l = x.image.now in
    let n = c.told-image in
    let p = c.bit_of in
    let q = c.bit_of-2 in
    let t = c.field-3 in
    let u = c.field-4 in
    let v = c.field-5 in
    let d = then _ _ _ _ _ (then _ _ _ _ _ (then _ _ _ _ _ (then _ _ _ _ _ c.set_at.ensures c.set_at-2.ensures) c.set_at-3.ensures) c.set_at-4.ensures) c.set_at-5.ensures in
    record {
      makes =
          d.makes
          ∙ inputs-so (registers_of l) (inputs_of x.fields.now) c.from.result c.from-2.result t.result.v u.result.v v.result.v
          (digital-length l n) (analog-length l n)
          (c.from.ensures ∙ p.ensures ∙ ap (λ (w : Word). bit_of w.v) c.field.ensures)
          (c.from-2.ensures ∙ q.ensures ∙ ap (λ (w : Word). bit_of w.v) c.field-2.ensures)
          (ap (λ (w : Word). w.v) t.ensures) (ap (λ (w : Word). w.v) u.ensures) (ap (λ (w : Word). w.v) v.ensures);
      stays = d.stays;
    }
