-- `walking::walk::Walk::go`.
use mathlib.Core.Path.{◌≡◌, ap, ◌∙◌, subst}
use mathlib.Core.Logic.{inl, inr, ◌⊎◌}
use Prim.Native.Nat.{◌≤◌}
use Rattle.walking.specs.Walk.{Walk, joined, depths_at, mask_at, taken}
use Rattle.walking.proofs.Depths.{or-low}
use Rattle.walking.proofs.Masks.{unmasked, new-joined, old-joined, by-stack, on-hand-room}
use Rattle.walking.proofs.walk.Walk.go.Goals as goal
use Rattle.walking.proofs.walk.Walk.go.Goals.{then-mask-lt-WAITS+else-depths-mask, else-mask-lt-WAITS}

pub invariant_of-result : goal.invariant_of-result
invariant_of-result c = record { inside = c.args.site.inside; small = or-low _ _ c.if-mask-lt-WAITS.true c.args.site.small }

pub invariant_of-self : goal.invariant_of-self
invariant_of-self c =
    let s = c.args.site in
    let l = c.if-mask-lt-WAITS.true in
    rw (unmasked _ s.depths l) (on-hand-room _ _ _ c.self.invariant s.inside s.small (new-joined _ s.depths l c.if-depths-mask.true) l)

pub returns : goal.returns
returns c =
    let s = c.args.site in
    by-stack _ _ _
    (subst (λ (x : Walk). (joined x s.address s.depths ≡ depths_at x s.address) ⊎ (512 ≤ mask_at x s.address)) c.self.view_is
    (elim c.if-mask-lt-WAITS.branch [
      | then-mask-lt-WAITS+else-depths-mask w ↦ inl (old-joined _ s.depths w.if-mask-lt-WAITS.true w.if-depths-mask.false)
      | else-mask-lt-WAITS w ↦ inr w.if-mask-lt-WAITS.false
    ]))
    (c.take.ensures ∙ ap taken c.reach.ensures)
