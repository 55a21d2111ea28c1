-- `text::scan::number_at`.
use Rattle.std.proofs.Common.{◌∙◌}
use Rattle.text.proofs.Reading.{no_word, one_word, with-minus, with-none}
use Rattle.text.proofs.scan.number_at.Goals as goal

pub returns-in_err-word : goal.returns-in_err-word
returns-in_err-word c = rw c.from_residual.ensures (no_word _ c.in_err-word.ensures)

pub returns-in-Some : goal.returns-in-Some
returns-in-Some c =
    let p = c.in-Some.ensures.cases in
    one_word _ _ _ c.in_ok-word.ensures (c.number_from.ensures ∙ with-minus c.in_ok-word.word.now _ p.0 p.1)

pub returns-in-None : goal.returns-in-None
returns-in-None c = one_word _ _ _ c.in_ok-word.ensures (c.number_from-in-None.ensures ∙ with-none c.in_ok-word.word.now c.in-None.ensures.cases)
