-- `text::scan::signed`.
use Rattle.text.proofs.Reading.{minus_of, plus_of}
use Rattle.text.proofs.scan.signed.Goals as goal

pub returns-then-minus : goal.returns-then-minus
returns-then-minus c = rw c.if-minus.true (minus_of _ _ c.checked_sub_unsigned.ensures)

pub returns-else-minus : goal.returns-else-minus
returns-else-minus c = rw c.if-minus.false (plus_of _ _ c.checked_add_unsigned.ensures)
