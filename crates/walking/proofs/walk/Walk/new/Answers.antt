-- `walking::walk::Walk::new`.
use Rattle.walking.proofs.Scan.{blank, blank-room}
use Rattle.walking.proofs.walk.Walk.new.Goals as goal

pub invariant_of-result : goal.invariant_of-result
invariant_of-result c = blank-room blank

pub returns : goal.returns
returns c = blank
