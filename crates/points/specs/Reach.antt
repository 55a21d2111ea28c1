-- Which points are reached from the first, where `way` says where each one leads.
use Rattle.std.specs.Prelude.{◌≡◌, ◌⊎◌}
use Rattle.status.specs.declared.Status.{Status}
use Rattle.points.specs.Points.{first, NotAfter}
use Rattle.points.specs.declared.Point.{Point}
use Rattle.points.specs.declared.Way.{Way}
use Rattle.points.specs.declared.Way.TheVariants.{Bad, Nowhere, To, Both}

-- q is one of the points that a way leads to; "A bad point leads nowhere."
abbrev pub Leads : Way → Point → Type 0
Leads (Bad s) q = ⊥
Leads Nowhere q = ⊥
Leads (To a) q = q ≡ a
Leads (Both a b) q = (q ≡ a) ⊎ (q ≡ b)

pub data Reach (way : Point → Way) : Point → Type 0 where
  begin : Reach way first
  onward : {p q : Point} → Reach way p → Leads (way p) q → Reach way q

-- no bad point is reached
pub record Safe (way : Point → Way) : Type 0 where
  pub none : (q : Point) (s : Status) → Reach way q → way q ≡ Bad s → ⊥

-- p is the bad point of "lowest address, then lowest depth" that is reached, and s its status
pub record Lowest (way : Point → Way) (p : Point) (s : Status) : Type 0 where
  pub reached : Reach way p
  pub bad : way p ≡ Bad s
  pub least : (q : Point) (t : Status) → Reach way q → way q ≡ Bad t → NotAfter p q
