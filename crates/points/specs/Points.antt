-- "A point is an address 0..1,024 with a depth 0..8; it begins at (0, 0)."
use Rattle.std.specs.Prelude.{ℕ, ◌+◌, ◌*◌, ◌/◌, ◌%◌, ◌<◌, ◌≤◌, ◌≡◌, ◌⊎◌, Bool, leb}
use Rattle.points.specs.declared.Point.{Point}

abbrev pub point : ℕ → ℕ → Point
point a d = record { address = a; depth = d }

abbrev pub first : Point
first = point 0 0

pub record IsPoint (p : Point) : Type 0 where
  pub address : p.address ≤ 1024
  pub depth : p.depth ≤ 8

-- "address 1,024"; "depth 8"
abbrev pub is_end : Point → Bool
is_end p = leb 1024 p.address

abbrev pub is_deepest : Point → Bool
is_deepest p = leb 8 p.depth

-- "lowest address, then lowest depth": p is q or comes before it
abbrev pub NotAfter : Point → Point → Type 0
NotAfter p q = (p.address < q.address) ⊎ ((p.address ≡ q.address) × (p.depth ≤ q.depth))

-- the number of a point in that order, nine depths to an address, and the point of a number
abbrev pub number_of : Point → ℕ
number_of p = p.address * 9 + p.depth

abbrev pub point_at : ℕ → Point
point_at n = point (n / 9) (n % 9)
