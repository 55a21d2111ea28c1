-- `walking::lowest`.
use Rattle.leading.specs.Leading.{way_at}
use Rattle.walking.specs.Walk.{in_hand}
use Rattle.walking.proofs.Masks.{left_held}
use Rattle.walking.proofs.Scan.{Going}
use Rattle.walking.proofs.lowest.Given as goal

abbrev pub invariant-loop-next : goal.invariant-loop-next
invariant-loop-next l = Going (way_at l.program) (in_hand l.walk l.next) l.found

abbrev pub decreases-loop-next : goal.decreases-loop-next
decreases-loop-next l = left_held (in_hand l.walk l.next)
