-- Which images stand for registers in range.
use Rattle.std.specs.Prelude.{ℕ, Bool, ◌&&◌, List}
use Rattle.board.specs.Range.{registers_in_range}
use Rattle.reg_image.specs.Image.{shaped, registers_of}

-- 23 is answered where this does not hold: a place has a number that is none of its kind, or "registers handed in with an address, .."
unfoldable pub stands : List ℕ → Bool
stands l = shaped l && registers_in_range (registers_of l)
