-- The laws of division together, the worked examples by computing. Assumes nothing.
use mathlib.Core.Path.{◌≡◌, refl, ap}
use native.Mathlib.Omega.{arith}
use Rattle.words.specs.Word.{word}
use Rattle.wrapping.specs.Wrap.{wrap}
use Rattle.dividing.specs.Divide.{Answer, answer_of}
use Rattle.dividing.specs.Laws.{Laws}
use Rattle.std.specs.Prelude.{Result, Ok, Err}
use Rattle.words.specs.declared.Word.{Word}
use Rattle.dividing.specs.declared.ByZero.{ByZero}
use Rattle.dividing.proofs.Divisor.{quot-word, rem-word}
use Rattle.dividing.proofs.Whole.{whole, small, sign_up, sign_down}

pub one_answer : (x y : Result Word ByZero) → answer_of x ≡ answer_of y → x ≡ y
one_answer (Ok v) (Ok w) h = ap (λ (a : Answer). Ok (word a.value)) h
one_answer (Ok v) (Err f) h = let e = ap (λ (a : Answer). a.status) h in absurd (omega arith)
one_answer (Err e) (Ok w) h = let e = ap (λ (a : Answer). a.status) h in absurd (omega arith)
one_answer (Err e) (Err f) h = refl

pub laws : Laws
unfolding wrap
laws =
    record {
      whole = whole;
      small = small;
      sign_up = sign_up;
      sign_down = sign_down;
      quotient_word = quot-word;
      remainder_word = rem-word;
      one_answer = one_answer;
      div_seven = refl;
      mod_seven = refl;
      div_turned = refl;
      mod_turned = refl;
      div_least = refl;
      mod_least = refl;
      div_greatest = refl;
      mod_greatest = refl;
      div_zero = refl;
      mod_zero = refl;
    }
