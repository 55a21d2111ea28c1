-- `text::scan::Words::bytes`.
use Rattle.std.proofs.Common.{sym, ap, ◌∙◌, List, ℕ, rules}
use lib.Dec.{eqb}
use lib.Pointwise.{pointwise}
use Rattle.text.proofs.Pairs.{took_some, took_none, same_took, no_word, one-word, minus-alone, not_minus}
use Rattle.text.proofs.scan.Words.bytes.Goals as goal

pub returns-in_err-word : goal.returns-in_err-word
returns-in_err-word c = rw c.from_residual.ensures (took_none _ _ (sym (no_word _ _ c.in_err-word.ensures)))

pub returns-then-eq : goal.returns-then-eq
returns-then-eq c =
    let word = c.in_ok-word.word.now in
    let t = ap (λ (l : List ℕ). pointwise eqb word l) (sym c.as_slice.ensures) ∙ sym c.eq.ensures ∙ c.if-eq.true in
    took_some _ _ _ (sym (minus-alone word c.args.room.now t ∙ one-word _ _ _ c.in_ok-word.ensures)) (search rules)

pub returns-else-eq : goal.returns-else-eq
returns-else-eq c =
    let word = c.in_ok-word.word.now in
    let t = ap (λ (l : List ℕ). pointwise eqb word l) (sym c.as_slice.ensures) ∙ sym c.eq.ensures ∙ c.if-eq.false in
    same_took _ _ _ _ (not_minus word c.args.room.now t ∙ one-word _ _ _ c.in_ok-word.ensures) c.pairs.ensures
