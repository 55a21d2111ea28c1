-- What a user of `wrap` relies on, and worked examples: line 8 of 01's "Proved table" is among them.
use Rattle.std.specs.Prelude.{◌≡◌, ℤ, pos, negsuc, ◌+ℤ◌}
use Rattle.std.specs.Int.{w32}
use Rattle.std.proofs.Common.{SFits}
use Rattle.wrapping.specs.Wrap.{wrap, add_w, sub_w, mul_w}

pub record Laws : Type 0 where
  -- the result is a word, a word stays, and 2^32 more is the same word
  pub is_word : (z : ℤ) → SFits w32 (wrap z)
  pub stays : (z : ℤ) → SFits w32 z → wrap z ≡ z
  pub turns : (z : ℤ) → wrap (z +ℤ pos 4294967296) ≡ wrap z
  -- 65536 MUL 65536 is 0; 2147483647 ADD 1 is -2147483648; -2147483648 SUB 1 is 2147483647
  pub mul_wraps : mul_w (pos 65536) (pos 65536) ≡ pos 0
  pub add_wraps : add_w (pos 2147483647) (pos 1) ≡ negsuc 2147483647
  pub sub_wraps : sub_w (negsuc 2147483647) (pos 1) ≡ pos 2147483647
