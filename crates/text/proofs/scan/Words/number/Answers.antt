-- `text::scan::Words::number`.
use Rattle.std.proofs.Common.{rules}
use mir.Syntax.{w64}
use mir.ValLaws.{to_z-of_z}
use Rattle.text.proofs.Reading.{reads_none, reads_some}
use Rattle.text.proofs.scan.Words.number.Goals as goal

pub returns-in_err-number : goal.returns-in_err-number
returns-in_err-number c = rw (c.from_residual.ensures, ← c.self.view_is) (reads_none _ _ c.in_err-number.ensures)

pub returns : goal.returns
returns c = rw (to_z-of_z w64 c.in_ok-number.number (search rules), ← c.self.view_is) (reads_some _ _ _ _ c.in_ok-number.ensures)
