-- `sheet::line_at`: : the table, line by line, is the list of specs/.
use Prim.Native.Nat.{zero-le}
use mathlib.Core.Path.{sym}
use lib.ListN.{get_or-eq_default}
use Rattle.sheet.specs.Line.{lines, no_line}
use Rattle.sheet.specs.Rows.{parameters}
use Rattle.sheet.specs.Sheet.{axis, globals, rwe_rows, rw_rows, r_rows}
use Rattle.sheet.proofs.Keys.{none_of, from, beyond}
use Rattle.sheet.proofs.table.line_at.Goals as goal

pub returns-in_default : goal.returns-in_default
unfolding lines parameters axis globals rwe_rows rw_rows r_rows
returns-in_default c =
    let n = c.args.place in
    sym (get_or-eq_default lines no_line (beyond n 0 47 zero-le (none_of n (from 0 47) c.in_default.in_default-own.rest)))
