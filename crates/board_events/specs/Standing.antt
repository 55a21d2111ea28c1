-- What an event tells and leaves.
use Rattle.std.specs.Prelude.{ℕ, ◌≡◌, Bool, true, false, List, eqb}
use Rattle.board.specs.declared.Registers.{Registers}
use Rattle.reg_image.specs.Image.{registers_of, shaped}

-- the image stands for these registers
pub record Is (m : List ℕ) (r : Registers) : Type 0 where
  pub of : registers_of m ≡ r
  pub shape : shaped m ≡ true

-- an event that answers 100 leaves the image so; any other leaves it as it was
abbrev pub Leaving : Bool → Registers → List ℕ → List ℕ → Type 0
Leaving true r l m = Is m r
Leaving false r l m = m ≡ l

pub record Told (status : ℕ) (r : Registers) (l m : List ℕ) (n : ℕ) : Type 0 where
  pub answers : n ≡ status
  pub leaves : Leaving (eqb status 100) r l m
