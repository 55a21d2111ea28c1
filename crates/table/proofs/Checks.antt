-- The checks of lines 9 to 11, each by a list of points that holds all that are reached. Assumes nothing.
use mathlib.Core.Path.{◌≡◌, refl}
use mathlib.Core.Bool.{true}
use mathlib.Core.List.{List, [], ◌∷◌}
use Rattle.status.specs.declared.Status.TheVariants.{Unknown, Unavailable}
use Rattle.points.specs.Points.{first, point}
use Rattle.points.specs.Reach.{Reach, Safe, Lowest}
use Rattle.points.specs.declared.Point.{Point}
use Rattle.points.specs.declared.Way.TheVariants.{Bad}
use Rattle.leading.specs.Leading.{way_at}
use Rattle.checking.proofs.Certificate as certificate
use Rattle.checking.proofs.Certificate.{never, not_after, certifies, safe-by, lowest_by, goes, reached-by}
use Rattle.words.specs.Bytes as words-bytes
use Rattle.rows.specs.Row as rows_row
use Rattle.sheet.specs.Line as sheet-line
use Rattle.sheet.specs.Rows as sheet-rows
use Rattle.sheet.specs.Sheet as sheet-sheet
use Rattle.store.specs.Store as store-store
use Rattle.settings.specs.Settings as settings-settings
use Rattle.jumping.specs.Jump as jumping-jump
use Rattle.waiting.specs.Waiting as waiting-waiting
use Rattle.fields.specs.Fields as fields-fields
use Rattle.judge.specs.Judge as judge-judge
use Rattle.leading.specs.Leading as leading-leading
use Rattle.table.specs.Programs.{stopping, calling_itself, all_zero}

-- ---- the points that each program reaches, and a way to the bad one
abbrev stopping-points : List Point
stopping-points = point 0 0 ∷ []

abbrev calling-points : List Point
calling-points = point 0 0 ∷ point 0 1 ∷ point 0 2 ∷ point 0 3 ∷ point 0 4 ∷ point 0 5 ∷ point 0 6 ∷ point 0 7 ∷ point 0 8 ∷ point 1 0 ∷ point 1 1 ∷ point 1 2 ∷ point 1 3 ∷ point 1 4 ∷ point 1 5 ∷ point 1 6 ∷ point 1 7 ∷ []

abbrev calling-way : List Point
calling-way = point 0 1 ∷ point 0 2 ∷ point 0 3 ∷ point 0 4 ∷ point 0 5 ∷ point 0 6 ∷ point 0 7 ∷ point 0 8 ∷ []

abbrev zero-points : List Point
zero-points = point 0 0 ∷ []

abbrev zero-way : List Point
zero-way = []

-- ---- what is computed
record Computed : Type 0 where
  stopping-certified : certifies (way_at stopping) never stopping-points ≡ true
  calling-certified : certifies (way_at calling_itself) (not_after (point 0 8)) calling-points ≡ true
  calling-goes : goes (way_at calling_itself) first calling-way ≡ true
  calling-bad : way_at calling_itself (point 0 8) ≡ Bad Unavailable
  zero-certified : certifies (way_at all_zero) (not_after (point 0 0)) zero-points ≡ true
  zero-goes : goes (way_at all_zero) first zero-way ≡ true
  zero-bad : way_at all_zero (point 0 0) ≡ Bad Unknown

computed : Computed
unfolding words-bytes.word_of words-bytes.put_word rows_row.allowed rows_row.taken sheet-line.lines sheet-rows.parameters sheet-rows.rows sheet-sheet.rwe_rows sheet-sheet.rw_rows sheet-sheet.r_rows sheet-sheet.axis sheet-sheet.globals sheet-sheet.read_only store-store.written store-store.cell_at store-store.put_cell store-store.record_at store-store.put_record settings-settings.bank_place settings-settings.settable settings-settings.kept settings-settings.is_global settings-settings.guarded settings-settings.locked jumping-jump.jumps jumping-jump.address_of waiting-waiting.is_on waiting-waiting.happened waiting-waiting.tested waiting-waiting.waited fields-fields.writable fields-fields.storable fields-fields.sap fields-fields.has fields-fields.takes fields-fields.sgp judge-judge.judged judge-judge.is_flow judge-judge.is_reading leading-leading.by_depth leading-leading.record_status leading-leading.status_at leading-leading.onward leading-leading.way_at certificate.has certificate.closed certificate.certifies certificate.goes
computed =
    record {
      stopping-certified = refl;
      calling-certified = refl;
      calling-goes = refl;
      calling-bad = refl;
      zero-certified = refl;
      zero-goes = refl;
      zero-bad = refl;
    }

-- ---- what that says
pub stopping-safe : Safe (way_at stopping)
stopping-safe = safe-by (way_at stopping) stopping-points computed.stopping-certified

pub calling-lowest : Lowest (way_at calling_itself) (point 0 8) Unavailable
calling-lowest =
    lowest_by (way_at calling_itself) (point 0 8) Unavailable calling-points computed.calling-certified
    (reached-by (way_at calling_itself) first calling-way Reach.begin computed.calling-goes) computed.calling-bad

pub zero-lowest : Lowest (way_at all_zero) (point 0 0) Unknown
zero-lowest =
    lowest_by (way_at all_zero) (point 0 0) Unknown zero-points computed.zero-certified
    (reached-by (way_at all_zero) first zero-way Reach.begin computed.zero-goes) computed.zero-bad
