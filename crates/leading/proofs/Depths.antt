-- The paths of a record are its ways at each depth. Assumes nothing.
use Prim.Native.Nat.{ℕ}
use mathlib.Core.Path.{◌≡◌, refl, sym, ap, ◌∙◌}
use mathlib.Core.Bool.{Bool, true, false}
use lib.Dec.{eqb}
use borrow.Author.Tests.{eqb-true}
use Rattle.std.proofs.Common.{Result, Ok, Err}
use Rattle.words.specs.Word.{pick}
use Rattle.wire.specs.declared.Command.{Command}
use Rattle.status.specs.Status.{is_done}
use Rattle.status.specs.Refusal.{status_of}
use Rattle.status.specs.declared.Refusal.{Refusal}
use Rattle.status.specs.declared.Refusal.TheVariants.{Unknown, Kind, Value, Locked, Unavailable}
use Rattle.status.specs.declared.Status.TheVariants as status
use Rattle.points.specs.Points.{point}
use Rattle.points.specs.declared.Way.{Way}
use Rattle.points.specs.declared.Way.TheVariants.{Bad}
use Rattle.leading.specs.Leading.{by_depth, record_status, onward, unless_bad}
use Rattle.leading.specs.Depths.{at_depth, paths_on, PathsOf}
use Rattle.leading.specs.declared.Paths.{Paths}

-- ---- a way that is bad by its depth alone
refused-by : (b : Bool) (w : Way) → unless_bad (pick b status.Unavailable status.Done) w ≡ pick b (Bad status.Unavailable) w
refused-by true w = refl
refused-by false w = refl

-- ---- a record that the judge lets through, by its number
by-test : (P : Type 0) (n k : ℕ) → (n ≡ k → P) → (eqb n k ≡ false → P) → P
by-test P n k f g = by (eqb n k) refl
  where
    by : (b : Bool) → eqb n k ≡ b → P
    by true e = f (eqb-true n k e)
    by false e = g e

let_through : (r : Command) (a d : ℕ) → unless_bad (by_depth r (point a d)) (onward r (point a d)) ≡ at_depth (Ok (paths_on r a)) d
unfolding by_depth onward paths_on
let_through r a d =
    let n = r.number in
    let P : Type 0 = unless_bad (by_depth r (point a d)) (onward r (point a d)) ≡ at_depth (Ok (paths_on r a)) d in
    by-test P n 22 (λ e. simp e)
    (λ not-22. by-test P n 21 (λ e. simp e)
    (λ not-21. by-test P n 23 (λ e. simp (e, refused-by))
    (λ not-23. by-test P n 28 (λ e. simp e)
    (λ not-28. by-test P n 24 (λ e. simp (e, refused-by))
    (λ not-24. simp (not-22, not-21, not-23, not-28, not-24))))))

-- ---- the paths of a record, at each depth
not-done : (refusal : Refusal) → is_done (status_of refusal) ≡ false
not-done Unknown = refl
not-done Kind = refl
not-done Value = refl
not-done Locked = refl
not-done Unavailable = refl

pub each : (r : Command) (a d : ℕ) (x : Result Paths Refusal) → PathsOf r a x → unless_bad (record_status r (point a d)) (onward r (point a d)) ≡ at_depth x d
unfolding record_status
each r a d (Ok paths) h = simp h.0 (let_through r a d ∙ ap (λ p. at_depth (Ok p) d) (sym h.1))
each r a d (Err refusal) h = simp (h, not-done refusal)
