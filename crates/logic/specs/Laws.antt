-- NOT on whole numbers, and worked examples. `negsuc n` is -(n + 1).
use Rattle.std.specs.Prelude.{◌≡◌, ℤ, pos, negsuc, ◌-ℤ◌}
use Rattle.std.specs.Int.{w32}
use Rattle.std.proofs.Common.{SFits}
use Rattle.logic.specs.Logic.{and_w, or_w, xor_w, not_w}

pub record Laws : Type 0 where
  -- NOT a is -1 - a
  pub not_is : (a : ℤ) → SFits w32 a → not_w a ≡ negsuc 0 -ℤ a
  -- -1 AND 12 is 12, -8 OR 5 is -3, -1 XOR 5 is -6, NOT 0 is -1
  pub and_ones : and_w (negsuc 0) (pos 12) ≡ pos 12
  pub or_sign : or_w (negsuc 7) (pos 5) ≡ negsuc 2
  pub xor_ones : xor_w (negsuc 0) (pos 5) ≡ negsuc 5
  pub not_zero : not_w (pos 0) ≡ negsuc 0
