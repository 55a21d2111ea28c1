-- `machine::frame::show_address`.
use mathlib.Core.Path.{refl}
use Rattle.cmd_turns.proofs.Decides.{refusal-not-done}
use Rattle.machine.proofs.Shown.{shown, not-shown}
use Rattle.machine.proofs.frame.show_address.Goals as goal

pub returns-in-Err : goal.returns-in-Err
returns-in-Err c n k m =
    let x = c.args in
    not-shown x.image.now x.c n k m _ c.in-Err.ensures (refusal-not-done _) c.refused.result c.refused.ensures

pub returns-in-Ok : goal.returns-in-Ok
returns-in-Ok c n k m =
    let x = c.args in
    shown x.image.now x.c n k m _ c.in-Ok.ensures refl c.get.result c.get.ensures c.of_bits.result c.of_bits.ensures
