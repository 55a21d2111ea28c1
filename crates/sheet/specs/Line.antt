-- The lines of the code's table: a row's numbers, and its cell.
use Rattle.std.specs.Prelude.{ℕ, ◌+◌, List, [], ◌∷◌, pos, get_or}
use Rattle.words.specs.Word.{word, pick}
use Rattle.rows.specs.Row.{stored}
use Rattle.sheet.specs.Rows.{parameters}
use Rattle.rows.specs.declared.Access.TheVariants.{R}
use Rattle.rows.specs.declared.Row.{Row}
use Rattle.sheet.specs.declared.table.Line.{Line}

abbrev pub line_of : ℕ → Row → Line
line_of c r =
    record {
      0 = r.number;
      1 = r.access;
      2 = r.low.v;
      3 = r.high.v;
      4 = r.standard.v;
      5 = r.mask;
      6 = c;
    }

abbrev pub row_of : Line → Row
row_of l =
    record {
      number = l.0;
      access = l.1;
      low = word l.2;
      high = word l.3;
      standard = word l.4;
      mask = l.5;
    }

-- the lines of rows, the first of which has cell c
abbrev pub lines_from : ℕ → List Row → List Line
lines_from c [] = []
lines_from c (r ∷ rs) = line_of c r ∷ lines_from (pick (stored r.access) (c + 1) c) rs

unfoldable pub lines : List Line
unfolding parameters
lines = lines_from 0 parameters

abbrev pub no_line : Line
no_line = record { 0 = 0; 1 = R; 2 = pos 0; 3 = pos 0; 4 = pos 0; 5 = 0; 6 = 0 }

-- the line of a place; past the last, zeros
abbrev pub line_at : ℕ → Line
line_at i = get_or lines i no_line
