-- `board_datagrams::receiving::receive`.
use mathlib.Core.Path.{sym, ◌∙◌}
use Rattle.rules.specs.Datagram.{received}
use Rattle.board_datagrams.proofs.Taking.{ready}
use Rattle.board_datagrams.proofs.receiving.receive.Goals as goal

pub returns-in-Ok : goal.returns-in-Ok
unfolding received
returns-in-Ok c ours t h =
    let x = c.args in
    let e = c.in-Ok.is in
    rw e (c.answer.ensures (ready ours x.bytes.now x.program.now x.cells.now x.reply.now _ (sym e ∙ t) h))
