-- "DIV MOD (toward zero; remainder has the dividend's sign; zero divisor 4; -2147483648 by -1 gives -2147483648 and 0)"
use Rattle.std.specs.Prelude.{ℕ, Bool, false, eqb, ℤ, pos, negsuc, Result, Ok, Err}
use Rattle.std.specs.Int.Signed.{quot_z, rem_z}
use Rattle.words.specs.Word.{pick}
use Rattle.wrapping.specs.Wrap.{wrap}
use Rattle.words.specs.declared.Word.{Word}
use Rattle.dividing.specs.declared.ByZero.{ByZero}

abbrev pub is_zero : ℤ → Bool
is_zero (pos n) = eqb n 0
is_zero (negsuc n) = false

-- a status and a value
pub record Answer : Type 0 where
  pub status : ℕ
  pub value : ℤ

abbrev pub done : ℤ → Answer
done z = record { status = 100; value = z }

-- "zero divisor 4"; a refusal's value is 0
abbrev pub by_zero : Answer
by_zero = record { status = 4; value = pos 0 }

-- the numbers of each answer
abbrev pub answer_of : Result Word ByZero → Answer
answer_of (Ok w) = done w.v
answer_of (Err e) = by_zero

-- DIV: toward zero, wrapped at 32 bits
abbrev pub divided_w : ℤ → ℤ → Answer
divided_w a b = pick (is_zero b) by_zero (done (wrap (quot_z a b)))

-- MOD: "remainder has the dividend's sign"
abbrev pub remainder_w : ℤ → ℤ → Answer
remainder_w a b = pick (is_zero b) by_zero (done (rem_z a b))
