-- What a user of division relies on, and worked examples: line 7 of 01's "Proved table" is among them. `negsuc n` is -(n + 1).
use Rattle.std.specs.Prelude.{◌<◌, ◌≡◌, true, false, ℤ, pos, negsuc, nat_abs, ◌+ℤ◌, ◌*ℤ◌, Result}
use Rattle.std.specs.Int.Signed.{le_z, quot_z, rem_z}
use Rattle.std.specs.Int.{w32}
use Rattle.std.proofs.Common.{SFits}
use Rattle.dividing.specs.Divide.{is_zero, done, answer_of, divided_w, remainder_w}
use Rattle.words.specs.declared.Word.{Word}
use Rattle.dividing.specs.declared.ByZero.{ByZero}

pub record Laws : Type 0 where
  -- "toward zero; remainder has the dividend's sign": a is the quotient times b and the remainder, which is smaller than b
  -- and has a's sign or is 0
  pub whole : (a b : ℤ) → quot_z a b *ℤ b +ℤ rem_z a b ≡ a
  pub small : (a b : ℤ) → is_zero b ≡ false → nat_abs (rem_z a b) < nat_abs b
  pub sign_up : (a b : ℤ) → le_z (pos 0) a ≡ true → le_z (pos 0) (rem_z a b) ≡ true
  pub sign_down : (a b : ℤ) → le_z a (pos 0) ≡ true → le_z (rem_z a b) (pos 0) ≡ true
  -- the answers are words without wrapping, but for -2147483648 by -1
  pub quotient_word : (a b : ℤ) → SFits w32 a → (a ≡ negsuc 2147483647 → b ≡ negsuc 0 → ⊥) → SFits w32 (quot_z a b)
  pub remainder_word : (a b : ℤ) → SFits w32 a → SFits w32 (rem_z a b)
  -- an answer is known by its numbers
  pub one_answer : (x y : Result Word ByZero) → answer_of x ≡ answer_of y → x ≡ y
  -- -7 DIV 2 is -3, MOD -1
  pub div_seven : divided_w (negsuc 6) (pos 2) ≡ done (negsuc 2)
  pub mod_seven : remainder_w (negsuc 6) (pos 2) ≡ done (negsuc 0)
  -- 7 DIV -2 is -3, MOD 1
  pub div_turned : divided_w (pos 7) (negsuc 1) ≡ done (negsuc 2)
  pub mod_turned : remainder_w (pos 7) (negsuc 1) ≡ done (pos 1)
  -- -2147483648 by -1 gives -2147483648 and 0; 2147483647 by -1 gives -2147483647 and 0
  pub div_least : divided_w (negsuc 2147483647) (negsuc 0) ≡ done (negsuc 2147483647)
  pub mod_least : remainder_w (negsuc 2147483647) (negsuc 0) ≡ done (pos 0)
  pub div_greatest : divided_w (pos 2147483647) (negsuc 0) ≡ done (negsuc 2147483646)
  pub mod_greatest : remainder_w (pos 2147483647) (negsuc 0) ≡ done (pos 0)
  -- "zero divisor 4"
  pub div_zero : (divided_w (pos 5) (pos 0)).status ≡ 4
  pub mod_zero : (remainder_w (pos 5) (pos 0)).status ≡ 4
