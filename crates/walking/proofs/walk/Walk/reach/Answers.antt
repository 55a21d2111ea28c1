-- `walking::walk::Walk::reach`.
use native.Mathlib.Omega.{arith}
use borrow.Author.Tests.{ne_eqb, lt-ltb, le-ltb}
use Rattle.walking.specs.Walk.{reached}
use Rattle.walking.proofs.Masks.{room_for, joined-low, reached-room}
use Rattle.walking.proofs.walk.Walk.reach.Goals as goal

pub overflow_add-self : goal.overflow_add-self
overflow_add-self c = omega (arith, joined-low _ _ _ c.self.invariant c.args.site.inside c.args.site.small)

pub offset_bounds-self-inside-self-inside : goal.offset_bounds-self-inside-self-inside
offset_bounds-self-inside-self-inside c = omega (arith, room_for _ _ c.self.invariant c.args.site.inside c.if-old-lt-WAITS.true)

pub bounds-self-inside-self-inside : goal.bounds-self-inside-self-inside
bounds-self-inside-self-inside c = room_for _ _ c.self.invariant c.args.site.inside c.if-old-lt-WAITS.true

pub overflow_add-self-then-old-lt-WAITS : goal.overflow_add-self-then-old-lt-WAITS
overflow_add-self-then-old-lt-WAITS c = omega (arith, room_for _ _ c.self.invariant c.args.site.inside c.if-old-lt-WAITS.true)

pub invariant_of-self : goal.invariant_of-self
unfolding reached
invariant_of-self c =
    simp (ne_eqb _ _ c.if-joined-before.false, lt-ltb _ _ c.if-old-lt-WAITS.true) at (reached-room _ _ _ c.self.invariant c.args.site.inside c.args.site.small)

pub invariant_of-self-else-old-lt-WAITS : goal.invariant_of-self-else-old-lt-WAITS
unfolding reached
invariant_of-self-else-old-lt-WAITS c =
    simp (ne_eqb _ _ c.if-joined-before.false, le-ltb _ _ c.if-old-lt-WAITS.false) at (reached-room _ _ _ c.self.invariant c.args.site.inside c.args.site.small)
