-- Bad ways, and the points that ways reach. Assumes nothing.
use native.Mathlib.Omega.{arith}
use mathlib.Core.Bool.{Bool, true, false}
use Rattle.points.specs.Points.{IsPoint}
use Rattle.points.specs.Reach.{Leads, Reach}
use Rattle.points.specs.declared.Point.{Point}
use Rattle.points.specs.declared.Way.{Way}
use Rattle.points.specs.declared.Way.TheVariants.{Bad, Nowhere, To, Both}

abbrev pub is_bad : Way → Bool
is_bad (Bad s) = true
is_bad Nowhere = false
is_bad (To a) = false
is_bad (Both a b) = false

-- where points lead to points only, all that are reached are points
pub all-points : (way : Point → Way) → ((p q : Point) → IsPoint p → Leads (way p) q → IsPoint q) → {p : Point} → Reach way p → IsPoint p
all-points way ok Reach.begin = record { address = omega arith; depth = omega arith }
all-points way ok (Reach.onward {p} {q} r l) = ok p q (all-points way ok r) l
