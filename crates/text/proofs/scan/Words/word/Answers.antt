-- `text::scan::Words::word`.
use Rattle.std.proofs.Common.{rules}
use mir.Syntax.{w32, w64}
use mir.ValLaws.{to_z-of_z}
use Rattle.text.proofs.Reading.{reads_none, reads_some, no_number_word, not_one_word, the_word, not_word, is_a_word}
use Rattle.text.proofs.scan.Words.word.Goals as goal

pub returns-in_err-number : goal.returns-in_err-number
returns-in_err-number c = rw (c.from_residual.ensures, ← c.self.view_is) (reads_none _ _ (no_number_word _ c.in_err-number.ensures))

pub returns-in_err-word : goal.returns-in_err-word
returns-in_err-word c =
    let e = to_z-of_z w64 c.in_ok-number.number (search rules) in
    let t = not_word c.in_ok-number.number _ (rw e at c.try_from.ensures) c.in_err-word.ensures.value in
    rw (c.from_residual-in_err-word.ensures, ← c.self.view_is) (reads_none _ _ (not_one_word _ _ _ c.in_ok-number.ensures t))

pub returns : goal.returns
returns c =
    let e = to_z-of_z w64 c.in_ok-number.number (search rules) in
    let t = is_a_word c.in_ok-number.number _ (rw e at c.try_from.ensures) _ c.in_ok-word.ensures.value in
    rw (to_z-of_z w32 c.in_ok-word.word (search rules), ← c.self.view_is) (reads_some _ _ _ _ (the_word _ _ _ c.in_ok-number.ensures _ t))
