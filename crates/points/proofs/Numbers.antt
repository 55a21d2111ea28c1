-- Points and their numbers. Assumes nothing.
use Prim.Native.Nat.{ℕ, ◌+◌, ◌*◌, ◌/◌, ◌%◌, ◌<◌, ◌≤◌}
use native.Mathlib.Omega.{arith}
use native.Mathlib.Decide.{dec_lt}
use mathlib.Core.Path.{◌≡◌}
use mathlib.Core.Logic.{inl, inr, ⊎_elim}
use Rattle.points.specs.Points.{IsPoint, NotAfter, number_of, point_at}
use Rattle.points.specs.Laws.{Laws}
use Rattle.points.specs.declared.Point.{Point}

pub number_low : (p : Point) → IsPoint p → number_of p < 9225
number_low p v = omega (arith, v.address, v.depth)

pub is_point : (n : ℕ) → n < 9225 → IsPoint (point_at n)
is_point n h = record { address = omega arith; depth = omega arith }

pub point_number : (p : Point) → IsPoint p → point_at (number_of p) ≡ p
point_number p v =
    let a : (p.address * 9 + p.depth) / 9 ≡ p.address = omega (arith, v.depth) in
    let d : (p.address * 9 + p.depth) % 9 ≡ p.depth = omega (arith, v.depth) in
    λ i. record { address = a i; depth = d i }

pub number_point : (n : ℕ) → number_of (point_at n) ≡ n
number_point n = omega arith

pub in_order : (p q : Point) → IsPoint p → IsPoint q → number_of p ≤ number_of q → NotAfter p q
in_order p q v w h =
    elim (dec_lt p.address q.address) [
      | yes y ↦ inl y
      | no z ↦ inr (omega (arith, v.depth, w.depth), omega (arith, v.depth, w.depth))
    ]

pub order_in : (p q : Point) → IsPoint p → NotAfter p q → number_of p ≤ number_of q
order_in p q v h = ⊎_elim (λ l. omega (arith, v.depth)) (λ e. omega (arith, e.0, e.1)) h

pub laws : Laws
laws =
    record {
      number_low = number_low;
      is_point = is_point;
      point_number = point_number;
      number_point = number_point;
      in_order = in_order;
      order_in = order_in;
    }
