-- `text::scan::pairs`: what the pairs that are left make is what all make.
use Rattle.std.proofs.Common.{◌≡◌, ◌≤◌, length}
use Rattle.text.specs.Hex.{pairs_of}
use Rattle.text.proofs.scan.pairs.Given as goal

abbrev pub invariant-loop-pair : goal.invariant-loop-pair
invariant-loop-pair l = (pairs_of l.rest l.count l.room ≡ pairs_of l.text 0 l.initial.room) × (l.count ≤ 64)

abbrev pub decreases-loop-pair : goal.decreases-loop-pair
decreases-loop-pair l = length l.rest
