-- `text::print::Output::put`.
use Rattle.text.proofs.Putting.{with-room, without-room}
use Rattle.text.proofs.print.Output.put.Goals as goal

pub returns-then-self-lt-ROOM : goal.returns-then-self-lt-ROOM
returns-then-self-lt-ROOM c = with-room _ _ _ c.args.b c.self.told c.self.view_is c.if-self-lt-ROOM.true

pub returns-else-self-lt-ROOM : goal.returns-else-self-lt-ROOM
returns-else-self-lt-ROOM c = without-room _ _ _ c.args.b c.self.told c.self.view_is c.if-self-lt-ROOM.false c.self.invariant
