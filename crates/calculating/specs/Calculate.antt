-- "CALC and CALCX types 0..8: ADD SUB MUL (wrap at 32 bits), DIV MOD (..), AND OR XOR, NOT of the operand"
use Rattle.std.specs.Prelude.{ℕ, eqb, ℤ}
use Rattle.words.specs.Word.{pick}
use Rattle.wrapping.specs.Wrap.{add_w, sub_w, mul_w}
use Rattle.dividing.specs.Divide.{Answer, done, divided_w, remainder_w}
use Rattle.logic.specs.Logic.{and_w, or_w, xor_w, not_w}

-- a: the accumulator; b: CALC's value, CALCX's X; o: what NOT is of
unfoldable pub calculated : ℕ → ℤ → ℤ → ℤ → Answer
calculated kind a b o =
    pick (eqb kind 0) (done (add_w a b))
    (pick (eqb kind 1) (done (sub_w a b))
    (pick (eqb kind 2) (done (mul_w a b))
    (pick (eqb kind 3) (divided_w a b)
    (pick (eqb kind 4) (remainder_w a b)
    (pick (eqb kind 5) (done (and_w a b))
    (pick (eqb kind 6) (done (or_w a b))
    (pick (eqb kind 7) (done (xor_w a b))
    (done (not_w o)))))))))
