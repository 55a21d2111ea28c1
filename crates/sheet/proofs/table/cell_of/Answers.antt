-- `sheet::cell_of`: : the table's cells count the rows that have one.
use native.Mathlib.Nat.{zero-add}
use mathlib.Core.Path.{ap, ◌∙◌}
use lib.ListN.{replicate}
use Rattle.sheet.specs.Line.{lines}
use Rattle.sheet.specs.Rows.{parameters, rows, cell_of}
use Rattle.sheet.specs.Sheet.{axis, globals, user_row, rwe_rows, rw_rows, r_rows}
use Rattle.sheet.specs.declared.table.Line.{Line}
use Rattle.sheet.proofs.Lines.{line-cell}
use Rattle.sheet.proofs.Cells.{user-cell, past-cell}
use Rattle.sheet.proofs.table.cell_of.Goals as goal

pub returns-then-place-lt-LISTED : goal.returns-then-place-lt-LISTED
unfolding lines rows parameters axis globals rwe_rows rw_rows r_rows
returns-then-place-lt-LISTED c =
    let i = c.args.place in
    c.from.ensures ∙ ap (λ (l : Line). l.6) c.line_at.ensures
    ∙ line-cell 0 parameters (replicate 56 user_row) i c.if-place-lt-LISTED.true ∙ zero-add (cell_of rows i)

pub returns-then-place-lt-VALUES : goal.returns-then-place-lt-VALUES
returns-then-place-lt-VALUES c = user-cell c.args.place c.if-place-lt-LISTED.false c.if-place-lt-VALUES.true

pub returns-else-place-lt-VALUES : goal.returns-else-place-lt-VALUES
returns-else-place-lt-VALUES c = past-cell c.args.place c.if-place-lt-VALUES.false
