-- An image on its way through power-up: its working values are filled from the first place on.
use Rattle.std.specs.Prelude.{ℕ, ◌<◌, ◌≡◌, true, List, pos, length, get_or}
use Rattle.sheet.specs.Rows.{rows}
use Rattle.values.specs.Values.{powered_at}
use Rattle.board.specs.Registers.{unpowered}
use Rattle.reg_image.specs.With.{with_values}
use Rattle.reg_image.specs.Image.{registers_of, shaped}

-- the first i working values are those of power-up from these cells, and no other register was touched
pub record Filling (s : List ℕ) (i : ℕ) (l : List ℕ) : Type 0 where
  pub rest : registers_of l ≡ with_values (registers_of l).values unpowered
  pub shape : shaped l ≡ true
  pub size : length (registers_of l).values ≡ 103
  pub there : (j : ℕ) → j < i → get_or (registers_of l).values j (pos 0) ≡ (powered_at rows s j).v

-- from one place up to another
pub record Fills (s : List ℕ) (from to : ℕ) (l m : List ℕ) : Type 0 where
  pub fills : Filling s from l → Filling s to m
