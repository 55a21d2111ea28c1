-- `machine::steps::step`.
use native.Mathlib.Omega.{arith}
use Prim.Native.Nat.{◌+◌, ◌*◌, ◌-◌, ◌<◌}
use mathlib.Core.Path.{sym, ◌∙◌}
use borrow.Author.Tests.{lt-leb, lt-ltb}
use Rattle.words.proofs.Parts.{byte-part}
use Rattle.wire.proofs.Parts.{command-part}
use Rattle.machine.specs.Steps.{step_turn}
use Rattle.machine.proofs.Keeps.{same}
use Rattle.machine.proofs.steps.step.Goals as goal

pub decide-requires : goal.decide-requires
decide-requires c =
    let p = c.args.first + c.args.address * 7 in
    let h : c.args.address < 1024 = omega (arith, c.requires.0, c.requires.2) in
    (sym (byte-part c.args.program.now p (p + 7 - p) (omega arith)), rw (lt-ltb c.args.address 1024 h))

pub returns-in-Ok : goal.returns-in-Ok
unfolding step_turn
returns-in-Ok c =
    let x = c.args in
    let p = x.first + x.address * 7 in
    let e = rw (command-part x.program.now p (p + 7 - p) (omega arith)) at c.in-Ok.ensures in
    record { makes = simp (lt-leb _ _ c.requires.0) (c.apply.ensures.makes ∙ e); kept = c.apply.ensures.kept; stays = c.apply.ensures.stays }

pub returns-in-Err : goal.returns-in-Err
unfolding step_turn
returns-in-Err c =
    let x = c.args in
    let p = x.first + x.address * 7 in
    let h : x.address < 1024 = omega (arith, c.requires.0, c.requires.2) in
    let e = rw (command-part x.program.now p (p + 7 - p) (omega arith)) at c.in-Err.ensures in
    record { makes = simp (lt-leb _ _ c.requires.0) (simp (c.goes.ensures, c.from.ensures) (rw (lt-ltb x.address 1024 h) at e)); kept = same _; stays = λ t. t }
