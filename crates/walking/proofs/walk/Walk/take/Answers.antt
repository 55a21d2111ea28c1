-- `walking::walk::Walk::take`.
use native.Mathlib.Omega.{arith}
use Rattle.walking.proofs.Masks.{n-low, off-room}
use Rattle.walking.proofs.walk.Walk.take.Goals as goal

pub offset_bounds-self-inside-self-inside : goal.offset_bounds-self-inside-self-inside
offset_bounds-self-inside-self-inside c = omega (arith, n-low _ c.self.invariant)

pub bounds-self-inside-self-inside : goal.bounds-self-inside-self-inside
bounds-self-inside-self-inside c = omega (arith, n-low _ c.self.invariant)

pub invariant_of-self : goal.invariant_of-self
invariant_of-self c = off-room _ c.self.invariant (omega (arith, c.if-self-eq0.false))
