-- Tests that are counted.
use Rattle.std.specs.Prelude.{ℕ, ◌≤◌, ◌≡◌, Bool, true, false, eqb}

-- 1 where a test holds
abbrev pub bit : Bool → ℕ
bit true = 1
bit false = 0

-- r of n tests hold, and b says whether they all do
pub record Counts (n : ℕ) (b : Bool) (r : ℕ) : Type 0 where
  pub within : r ≤ n
  pub all : eqb r n ≡ b
