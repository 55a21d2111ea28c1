-- Of all bad points that are reached one is the lowest, and the walk's promise leaves one answer. Assumes nothing.
use Prim.Native.Nat.{ℕ}
use native.Mathlib.Omega.{arith}
use mathlib.Core.Path.{◌≡◌, refl, sym, ap, ◌∙◌}
use mathlib.Core.List.{List}
use Rattle.std.proofs.Common.{Option, Some, None}
use Rattle.status.specs.declared.Status.{Status}
use Rattle.points.specs.Points.{number_of, point_at}
use Rattle.points.specs.Reach.{Lowest}
use Rattle.points.specs.declared.Point.{Point}
use Rattle.points.specs.declared.Way.TheVariants.{Bad}
use Rattle.points.proofs.Numbers.{point_number, number_point, order_in}
use Rattle.leading.specs.Leading.{way_at}
use Rattle.leading.proofs.Ways.{reached_in}
use Rattle.walking.specs.Found.{FoundIn}
use Rattle.walking.specs.Laws.{Laws}
use Rattle.walking.specs.declared.found.Found.{Found}

module _ (program : List ℕ) {p q : Point} {s t : Status} (a : Lowest (way_at program) p s) (b : Lowest (way_at program) q t) where
  pub same_point : p ≡ q
  same_point =
      let i = reached_in program a.reached in
      let j = reached_in program b.reached in
      let e : number_of p ≡ number_of q = omega (
        arith,
        order_in p q i (a.least q t b.reached b.bad),
        order_in q p j (b.least p s a.reached a.bad),
      ) in
      sym (point_number p i) ∙ ap point_at e ∙ point_number q j

  pub same-status : s ≡ t
  same-status =
      let e : p ≡ q = same_point in
      let g : way_at program p ≡ Bad s = a.bad in
      let h : way_at program q ≡ Bad t = b.bad in
      cc

module _ (program : List ℕ) where
  same-found : (f g : Found) → Lowest (way_at program) (point_at f.number) f.status → Lowest (way_at program) (point_at g.number) g.status → f ≡ g
  same-found f g a b =
      let n : f.number ≡ g.number = sym (number_point f.number) ∙ ap number_of (same_point program a b) ∙ number_point g.number in
      let t : f.status ≡ g.status = same-status program a b in
      λ i. record { number = n i; status = t i }

  one_found : (f g : Option Found) → FoundIn (way_at program) f → FoundIn (way_at program) g → f ≡ g
  one_found None None h k = refl
  one_found None (Some g) h k = absurd (h.none _ _ k.1.reached k.1.bad)
  one_found (Some f) None h k = absurd (k.none _ _ h.1.reached h.1.bad)
  one_found (Some f) (Some g) h k = ap Some (same-found f g h.1 k.1)

pub laws : Laws
laws = record { one_found = one_found }
