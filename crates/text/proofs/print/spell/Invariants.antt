-- `text::print::spell`: the digits that are left, before those that stand, are all.
use Rattle.std.proofs.Common.{◌≡◌, ◌≤◌, drop, length}
use Rattle.text.specs.Put.{digits_before, decimal}
use Rattle.text.proofs.print.spell.Given as goal

abbrev pub invariant-loop-at : goal.invariant-loop-at
invariant-loop-at l = (l.at ≤ 20) × (length l.text ≡ 20) × (digits_before l.at l.rest (drop l.at l.text) ≡ decimal l.n)

abbrev pub decreases-loop-at : goal.decreases-loop-at
decreases-loop-at l = l.at
