-- `text::print::Output::put_bytes`.
use Rattle.std.proofs.Common.{arith, sym, ap, ◌∙◌, ◌∷◌, ◌≡◌, ◌<◌, List, ℕ, length, get_or}
use borrow.Author.Tests.{eqb-true, eqb-false}
use Rattle.text.specs.Put.{hex_digit}
use Rattle.text.proofs.Putting.{then-put, same-put, hex_more, hex_all, hex_none, digit_at}
use Rattle.text.proofs.print.Output.put_bytes.Goals as goal

pub returns-then-is_empty : goal.returns-then-is_empty
returns-then-is_empty c =
    let none : length c.args.bytes.now ≡ 0 = eqb-true _ 0 (sym c.is_empty.ensures ∙ c.if-is_empty.true) in
    then-put _ _ _ _ _ _ c.put_all.ensures c.put_all-then-is_empty.ensures (ap (λ (l : List ℕ). 32 ∷ l) (hex_none c.args.bytes.now none))

pub loop-byte-preserved : goal.loop-byte-preserved
loop-byte-preserved c =
    let i = c.loop-byte.byte-index in
    let s = c.args.bytes.now in
    let b = get_or s i 0 in
    let small : b < 256 = omega (arith, c.type_inv.bytes i) in
    let high : c.from.result < 16 = omega (arith, c.from.ensures) in
    let low : c.from-in-loop-byte.result < 16 = omega (arith, c.from-in-loop-byte.ensures) in
    let first = digit_at _ high ∙ ap hex_digit c.from.ensures in
    let second = digit_at _ low ∙ ap hex_digit c.from-in-loop-byte.ensures in
    let both = then-put _ _ _ _ _ _ c.put.ensures c.put-in-loop-byte.ensures (rw (first, second)) in
    then-put _ _ _ _ _ _ c.loop-byte.invariant both (ap (λ (l : List ℕ). 32 ∷ l) (sym (hex_more s i c.loop-byte-test.true)))

pub returns : goal.returns
returns c =
    let s = c.args.bytes.now in
    let some : length s ≡ 0 → ⊥ = eqb-false _ 0 (sym c.is_empty.ensures ∙ c.if-is_empty.false) in
    same-put _ _ _ _ c.loop-byte.invariant (ap (λ (l : List ℕ). 32 ∷ l) (hex_all s c.loop-byte.byte-index some c.loop-byte-test.false))
