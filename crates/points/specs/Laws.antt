-- What a user of points and their numbers relies on.
use Rattle.std.specs.Prelude.{ℕ, ◌<◌, ◌≤◌, ◌≡◌}
use Rattle.points.specs.Points.{IsPoint, NotAfter, number_of, point_at}
use Rattle.points.specs.declared.Point.{Point}

pub record Laws : Type 0 where
  -- there are 9,225 points, and each has its number
  pub number_low : (p : Point) → IsPoint p → number_of p < 9225
  pub is_point : (n : ℕ) → n < 9225 → IsPoint (point_at n)
  pub point_number : (p : Point) → IsPoint p → point_at (number_of p) ≡ p
  pub number_point : (n : ℕ) → number_of (point_at n) ≡ n
  -- the order of the numbers is that of the points
  pub in_order : (p q : Point) → IsPoint p → IsPoint q → number_of p ≤ number_of q → NotAfter p q
  pub order_in : (p q : Point) → IsPoint p → NotAfter p q → number_of p ≤ number_of q
