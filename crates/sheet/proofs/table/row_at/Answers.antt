-- `sheet::row_at`.
use Prim.Native.Nat.{◌-◌}
use mathlib.Core.Path.{sym, ap, ◌∙◌}
use lib.ListN.{replicate}
use Rattle.words.proofs.Lists.{all_same}
use Rattle.sheet.specs.Line.{lines, row_of}
use Rattle.sheet.specs.Rows.{parameters, rows}
use Rattle.sheet.specs.Sheet.{axis, globals, user_row, rwe_rows, rw_rows, r_rows}
use Rattle.sheet.proofs.Lines.{line_row, from}
use Rattle.sheet.proofs.table.row_at.Goals as goal

pub returns-then-place-lt-LISTED : goal.returns-then-place-lt-LISTED
unfolding lines rows parameters axis globals rwe_rows rw_rows r_rows
returns-then-place-lt-LISTED c =
    c.row_of.ensures ∙ ap row_of c.line_at.ensures
    ∙ line_row 0 parameters (replicate 56 user_row) c.args.place c.if-place-lt-LISTED.true

pub returns-else-place-lt-LISTED : goal.returns-else-place-lt-LISTED
unfolding rows parameters axis globals rwe_rows rw_rows r_rows
returns-else-place-lt-LISTED c =
    let i = c.args.place in
    c.user.ensures ∙ sym (all_same user_row 56 (i - 47)) ∙ from rows 47 i c.if-place-lt-LISTED.false
