-- What a user of ways relies on.
use Rattle.std.specs.Prelude.{ℕ, ◌≡◌, List, Result}
use Rattle.status.specs.declared.Refusal.{Refusal}
use Rattle.status.specs.declared.Status.{Status}
use Rattle.status.specs.declared.Status.TheVariants.{Done}
use Rattle.points.specs.Points.{IsPoint}
use Rattle.points.specs.Reach.{Leads, Reach}
use Rattle.points.specs.declared.Point.{Point}
use Rattle.points.specs.declared.Way.TheVariants.{Bad}
use Rattle.leading.specs.Leading.{status_at, way_at}
use Rattle.leading.specs.Depths.{AtEach}
use Rattle.leading.specs.declared.Paths.{Paths}

pub record Laws : Type 0 where
  -- a point is bad exactly if its status is not 100, and that is the status that it is bad with
  pub bad_status : (program : List ℕ) (p : Point) (s : Status) → way_at program p ≡ Bad s → (status_at program p ≡ s) × (s ≡ Done → ⊥)
  pub status_bad : (program : List ℕ) (p : Point) → (status_at program p ≡ Done → ⊥) → way_at program p ≡ Bad (status_at program p)
  -- points lead to points, so all that are reached are points
  pub leads_in : (program : List ℕ) (p q : Point) → IsPoint p → Leads (way_at program p) q → IsPoint q
  pub reached_in : (program : List ℕ) (p : Point) → Reach (way_at program) p → IsPoint p
  -- what the points of an address lead to, all depths together, is one answer
  pub one_paths : (program : List ℕ) (a : ℕ) (x y : Result Paths Refusal) → AtEach (way_at program) a x → AtEach (way_at program) a y → x ≡ y
