-- The check of each program, by a list of points that holds all that are reached. Assumes nothing.
use Prim.Native.Nat.{ℕ}
use native.Mathlib.Omega.{arith}
use mathlib.Core.Path.{◌≡◌, refl}
use mathlib.Core.Bool.{true}
use mathlib.Core.List.{List, [], ◌∷◌}
use lib.ListN.{length, replicate, length-replicate}
use Rattle.status.specs.declared.Status.TheVariants.{Unknown, Kind, Value, Unavailable}
use Rattle.points.specs.Points.{first, point}
use Rattle.points.specs.Reach.{Reach, Safe, Lowest}
use Rattle.points.specs.declared.Point.{Point}
use Rattle.points.specs.declared.Way.TheVariants.{Bad}
use Rattle.leading.specs.Leading.{way_at}
use Rattle.checking.proofs.Certificate as certificate
use Rattle.checking.proofs.Certificate.{never, not_after, certifies, safe-by, lowest_by, goes, reached-by}
use Rattle.words.specs.Bytes as words-bytes
use Rattle.rows.specs.Row as rows_row
use Rattle.sheet.specs.Line as sheet-line
use Rattle.sheet.specs.Rows as sheet-rows
use Rattle.sheet.specs.Sheet as sheet-sheet
use Rattle.store.specs.Store as store-store
use Rattle.settings.specs.Settings as settings-settings
use Rattle.jumping.specs.Jump as jumping-jump
use Rattle.waiting.specs.Waiting as waiting-waiting
use Rattle.fields.specs.Fields as fields-fields
use Rattle.judge.specs.Judge as judge-judge
use Rattle.leading.specs.Leading as leading-leading
use Rattle.witnesses.specs.Checks.{Checks}
use Rattle.witnesses.specs.Programs.{working, refusing, untaken, deepening, twice, wrong_value, wrong_motor, not_on_sheet, falling}

-- ---- the points that each program reaches, and a way to the bad one
abbrev working-points : List Point
working-points = point 0 0 ∷ point 1 0 ∷ point 2 0 ∷ point 3 0 ∷ point 4 1 ∷ point 5 1 ∷ point 6 1 ∷ point 7 1 ∷ point 8 1 ∷ point 9 2 ∷ point 10 2 ∷ []

abbrev refusing-points : List Point
refusing-points = point 0 0 ∷ point 1 0 ∷ point 2 0 ∷ point 3 0 ∷ point 4 0 ∷ point 5 0 ∷ point 6 0 ∷ point 7 0 ∷ point 8 0 ∷ point 9 0 ∷ point 10 0 ∷ point 11 0 ∷ point 12 0 ∷ point 13 0 ∷ point 14 0 ∷ point 15 0 ∷ point 16 0 ∷ point 17 0 ∷ point 18 0 ∷ point 19 0 ∷ point 20 0 ∷ []

abbrev untaken-points : List Point
untaken-points = point 0 0 ∷ point 1 0 ∷ point 2 0 ∷ []

abbrev untaken-way : List Point
untaken-way = point 2 0 ∷ []

abbrev deepening-points : List Point
deepening-points = point 0 0 ∷ point 1 0 ∷ point 2 1 ∷ point 3 1 ∷ point 4 1 ∷ point 2 2 ∷ point 3 2 ∷ point 4 2 ∷ point 2 3 ∷ point 3 3 ∷ point 4 3 ∷ point 2 4 ∷ point 3 4 ∷ point 4 4 ∷ point 2 5 ∷ point 3 5 ∷ point 4 5 ∷ point 2 6 ∷ point 3 6 ∷ point 4 6 ∷ point 2 7 ∷ point 3 7 ∷ point 4 7 ∷ point 2 8 ∷ point 3 8 ∷ point 4 8 ∷ []

abbrev deepening-way : List Point
deepening-way = point 2 1 ∷ point 3 1 ∷ point 2 2 ∷ point 3 2 ∷ point 2 3 ∷ point 3 3 ∷ point 2 4 ∷ point 3 4 ∷ point 2 5 ∷ point 3 5 ∷ point 2 6 ∷ point 3 6 ∷ point 2 7 ∷ point 3 7 ∷ point 2 8 ∷ point 3 8 ∷ []

abbrev twice-points : List Point
twice-points = point 0 0 ∷ point 1 0 ∷ point 3 0 ∷ point 4 0 ∷ []

abbrev twice-way : List Point
twice-way = point 1 0 ∷ point 3 0 ∷ []

abbrev value-points : List Point
value-points = point 0 0 ∷ []

abbrev value-way : List Point
value-way = []

abbrev motor-points : List Point
motor-points = point 0 0 ∷ []

abbrev motor-way : List Point
motor-way = []

abbrev sheet-points : List Point
sheet-points = point 0 0 ∷ []

abbrev sheet-way : List Point
sheet-way = []

abbrev falling-points : List Point
falling-points = point 0 0 ∷ point 1023 0 ∷ point 1024 0 ∷ []

abbrev falling-way : List Point
falling-way = point 1023 0 ∷ point 1024 0 ∷ []

-- ---- what is computed
record Computed : Type 0 where
  working-certified : certifies (way_at working) never working-points ≡ true
  refusing-certified : certifies (way_at refusing) never refusing-points ≡ true
  untaken-certified : certifies (way_at untaken) (not_after (point 2 0)) untaken-points ≡ true
  untaken-goes : goes (way_at untaken) first untaken-way ≡ true
  untaken-bad : way_at untaken (point 2 0) ≡ Bad Unknown
  deepening-certified : certifies (way_at deepening) (not_after (point 3 8)) deepening-points ≡ true
  deepening-goes : goes (way_at deepening) first deepening-way ≡ true
  deepening-bad : way_at deepening (point 3 8) ≡ Bad Unavailable
  twice-certified : certifies (way_at twice) (not_after (point 3 0)) twice-points ≡ true
  twice-goes : goes (way_at twice) first twice-way ≡ true
  twice-bad : way_at twice (point 3 0) ≡ Bad Unavailable
  value-certified : certifies (way_at wrong_value) (not_after (point 0 0)) value-points ≡ true
  value-goes : goes (way_at wrong_value) first value-way ≡ true
  value-bad : way_at wrong_value (point 0 0) ≡ Bad Value
  motor-certified : certifies (way_at wrong_motor) (not_after (point 0 0)) motor-points ≡ true
  motor-goes : goes (way_at wrong_motor) first motor-way ≡ true
  motor-bad : way_at wrong_motor (point 0 0) ≡ Bad Value
  sheet-certified : certifies (way_at not_on_sheet) (not_after (point 0 0)) sheet-points ≡ true
  sheet-goes : goes (way_at not_on_sheet) first sheet-way ≡ true
  sheet-bad : way_at not_on_sheet (point 0 0) ≡ Bad Kind
  falling-certified : certifies (way_at falling) (not_after (point 1024 0)) falling-points ≡ true
  falling-goes : goes (way_at falling) first falling-way ≡ true
  falling-bad : way_at falling (point 1024 0) ≡ Bad Value

computed : Computed
unfolding words-bytes.word_of words-bytes.put_word rows_row.allowed rows_row.taken sheet-line.lines sheet-rows.parameters sheet-rows.rows sheet-sheet.rwe_rows sheet-sheet.rw_rows sheet-sheet.r_rows sheet-sheet.axis sheet-sheet.globals sheet-sheet.read_only store-store.written store-store.cell_at store-store.put_cell store-store.record_at store-store.put_record settings-settings.bank_place settings-settings.settable settings-settings.kept settings-settings.is_global settings-settings.guarded settings-settings.locked jumping-jump.jumps jumping-jump.address_of waiting-waiting.is_on waiting-waiting.happened waiting-waiting.tested waiting-waiting.waited fields-fields.writable fields-fields.storable fields-fields.sap fields-fields.has fields-fields.takes fields-fields.sgp judge-judge.judged judge-judge.is_flow judge-judge.is_reading leading-leading.by_depth leading-leading.record_status leading-leading.status_at leading-leading.onward leading-leading.way_at certificate.has certificate.closed certificate.certifies certificate.goes
computed =
    record {
      working-certified = refl;
      refusing-certified = refl;
      untaken-certified = refl;
      untaken-goes = refl;
      untaken-bad = refl;
      deepening-certified = refl;
      deepening-goes = refl;
      deepening-bad = refl;
      twice-certified = refl;
      twice-goes = refl;
      twice-bad = refl;
      value-certified = refl;
      value-goes = refl;
      value-bad = refl;
      motor-certified = refl;
      motor-goes = refl;
      motor-bad = refl;
      sheet-certified = refl;
      sheet-goes = refl;
      sheet-bad = refl;
      falling-certified = refl;
      falling-goes = refl;
      falling-bad = refl;
    }

-- ---- what that says
pub working-safe : Safe (way_at working)
working-safe = safe-by (way_at working) working-points computed.working-certified

pub refusing-safe : Safe (way_at refusing)
refusing-safe = safe-by (way_at refusing) refusing-points computed.refusing-certified

pub untaken-lowest : Lowest (way_at untaken) (point 2 0) Unknown
untaken-lowest =
    lowest_by (way_at untaken) (point 2 0) Unknown untaken-points computed.untaken-certified
    (reached-by (way_at untaken) first untaken-way Reach.begin computed.untaken-goes) computed.untaken-bad

pub deepening-lowest : Lowest (way_at deepening) (point 3 8) Unavailable
deepening-lowest =
    lowest_by (way_at deepening) (point 3 8) Unavailable deepening-points computed.deepening-certified
    (reached-by (way_at deepening) first deepening-way Reach.begin computed.deepening-goes) computed.deepening-bad

pub twice-lowest : Lowest (way_at twice) (point 3 0) Unavailable
twice-lowest =
    lowest_by (way_at twice) (point 3 0) Unavailable twice-points computed.twice-certified
    (reached-by (way_at twice) first twice-way Reach.begin computed.twice-goes) computed.twice-bad

pub value-lowest : Lowest (way_at wrong_value) (point 0 0) Value
value-lowest =
    lowest_by (way_at wrong_value) (point 0 0) Value value-points computed.value-certified
    (reached-by (way_at wrong_value) first value-way Reach.begin computed.value-goes) computed.value-bad

pub motor-lowest : Lowest (way_at wrong_motor) (point 0 0) Value
motor-lowest =
    lowest_by (way_at wrong_motor) (point 0 0) Value motor-points computed.motor-certified
    (reached-by (way_at wrong_motor) first motor-way Reach.begin computed.motor-goes) computed.motor-bad

pub sheet-lowest : Lowest (way_at not_on_sheet) (point 0 0) Kind
sheet-lowest =
    lowest_by (way_at not_on_sheet) (point 0 0) Kind sheet-points computed.sheet-certified
    (reached-by (way_at not_on_sheet) first sheet-way Reach.begin computed.sheet-goes) computed.sheet-bad

pub falling-lowest : Lowest (way_at falling) (point 1024 0) Value
falling-lowest =
    lowest_by (way_at falling) (point 1024 0) Value falling-points computed.falling-certified
    (reached-by (way_at falling) first falling-way Reach.begin computed.falling-goes) computed.falling-bad

not_short : length {A = ℕ} (replicate 7161 0) ≡ 7168 → ⊥
not_short e = omega (arith, e, length-replicate {A = ℕ} 7161 0)

pub checks : Checks
checks =
    record {
      working_passed = ((refl, working-safe), refl);
      refusing_passed = ((refl, refusing-safe), refl);
      untaken_refused = ((refl, untaken-lowest), refl);
      deepening_refused = ((refl, deepening-lowest), refl);
      twice_refused = ((refl, twice-lowest), refl);
      wrong_value_refused = ((refl, value-lowest), refl);
      wrong_motor_refused = ((refl, motor-lowest), refl);
      not_on_sheet_refused = ((refl, sheet-lowest), refl);
      falling_refused = ((refl, falling-lowest), refl);
      short_refused = (not_short, refl);
    }
