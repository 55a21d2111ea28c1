-- `machine::program::step_alone`.
use mathlib.Core.Path.{sym, ap, ◌∙◌}
use Rattle.rules.specs.Steps as board
use Rattle.reg_image.specs.Image.{registers_of}
use Rattle.machine.proofs.Runs.{alone-is}
use Rattle.machine.proofs.program.step_alone.Goals as goal

pub returns-in-Ok : goal.returns-in-Ok
returns-in-Ok c =
    let x = c.args in
    let chunk = c.in-Ok.ensures.1 in
    let w = rw chunk.same at c.walk.ensures in (
      λ h. let e = sym (alone-is x.program.now h (registers_of x.image.now) x.store.now) in
          record {
            status = w.status ∙ ap (λ (t : board.Turn). t.status) e;
            makes = w.makes ∙ ap (λ (t : board.Turn). t.registers) e;
            store = w.store ∙ ap (λ (t : board.Turn). t.store) e;
            stays = w.stays;
          },
      λ n. absurd (n chunk.long),
    )
