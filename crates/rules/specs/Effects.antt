-- What each effect changes; what it does not name stays.
use Rattle.std.specs.Prelude.{ℕ, List, ltb, ℤ, pos, set}
use Rattle.words.specs.Word.{pick, word}
use Rattle.words.specs.declared.Word.{Word}
use Rattle.sheet.specs.Rows.{rows, cell_of}
use Rattle.sheet.specs.Places.{axis_place}
use Rattle.store.specs.Store.{put_cell}
use Rattle.values.specs.Values.{value_at, set_value, powered_at}
use Rattle.registers.specs.Registers.{with_numbers, with_last, with_motion, with_flags}
use Rattle.registers.specs.declared.Core.{Core}
use Rattle.registers.specs.declared.Order.{Order}
use Rattle.registers.specs.declared.Order.TheVariants.{Position}
use Rattle.std.specs.declared.cmp.Ordering.{Ordering}
use Rattle.flags.specs.declared.Flags.{Flags}
use Rattle.status.specs.declared.Status.{Status}
use Rattle.status.specs.declared.Status.TheVariants.{Done}

-- ---- what a command does, once it is decided
pub data Effect : Type 0 where
  -- nothing, with this status
  Refused : Status → Effect
  -- the order, and its velocity
  Turn : Order → Word → Effect
  -- order position, to this parameter 50
  Move : Word → Effect
  -- a place of the sheet, with its value
  Set : ℕ → Word → Effect
  Global : ℕ → Word → Effect
  Store : ℕ → Effect
  Restore : ℕ → Effect
  -- an output, and its bit
  Output : ℕ → ℕ → Effect
  -- the accumulator and X
  Numbers : Word → Word → Effect
  Last : Ordering → Effect
  Clear : Flags → Effect

-- what a command leaves of the scalars, the working values, the outputs and the parameter store, and its status
pub record Work : Type 0 where
  pub core : Core
  pub values : List ℤ
  pub outputs : List ℕ
  pub store : List ℕ
  pub status : Status

abbrev pub left : Status → Core → List ℤ → List ℕ → List ℕ → Work
left s c v o m = record { core = c; values = v; outputs = o; store = m; status = s }

-- one of the four outputs
unfoldable pub set_output : List ℕ → ℕ → ℕ → List ℕ
set_output o port bit = pick (ltb port 4) (set o port bit) o

-- order position: "both set parameter 50"
abbrev pub to_position : Core → Core
to_position c = with_motion (record { order = Position; velocity = word (pos 0) }) c

abbrev pub set_position : List ℤ → Word → List ℤ
set_position v w = set_value v (axis_place 50) w.v

-- ---- the working values, the outputs and the parameter store
pub record Arrays : Type 0 where
  pub values : List ℤ
  pub outputs : List ℕ
  pub store : List ℕ

abbrev pub arrays : List ℤ → List ℕ → List ℕ → Arrays
arrays v o m = record { values = v; outputs = o; store = m }

-- Move: MVP and setting 50. Set: SAP and AAP, and SGP and AGP of bank 2. Global: "all RW and written to their cells at once". Store:
-- STAP and STGP. Restore: "RSAP and RSGP take the cell as power-up does". Output: SIO. The others change no array.
abbrev pub written : Effect → List ℤ → List ℕ → List ℕ → Arrays
written (Refused s) v o m = arrays v o m
written (Turn order velocity) v o m = arrays v o m
written (Move w) v o m = arrays (set_position v w) o m
written (Set place w) v o m = arrays (set_value v place w.v) o m
written (Global place w) v o m = arrays (set_value v place w.v) o (put_cell m (cell_of rows place) w.v)
written (Store place) v o m = arrays v o (put_cell m (cell_of rows place) (value_at v place).v)
written (Restore place) v o m = arrays (set_value v place (powered_at rows m place).v) o m
written (Output port bit) v o m = arrays v (set_output o port bit) m
written (Numbers a x) v o m = arrays v o m
written (Last l) v o m = arrays v o m
written (Clear f) v o m = arrays v o m

-- ---- the scalars
abbrev pub changed : Effect → Core → Core
changed (Refused s) c = c
changed (Turn order velocity) c = with_motion (record { order = order; velocity = velocity }) c
changed (Move w) c = to_position c
changed (Set place w) c = c
changed (Global place w) c = c
changed (Store place) c = c
changed (Restore place) c = c
changed (Output port bit) c = c
changed (Numbers a x) c = with_numbers a x c
changed (Last l) c = with_last l c
changed (Clear f) c = with_flags f c

-- ---- the status: done, unless it is a refusal
abbrev pub status_of : Effect → Status
status_of (Refused s) = s
status_of (Turn order velocity) = Done
status_of (Move w) = Done
status_of (Set place w) = Done
status_of (Global place w) = Done
status_of (Store place) = Done
status_of (Restore place) = Done
status_of (Output port bit) = Done
status_of (Numbers a x) = Done
status_of (Last l) = Done
status_of (Clear f) = Done

abbrev pub together : Status → Core → Arrays → Work
together s c a = left s c a.values a.outputs a.store

abbrev pub applied : Effect → Core → List ℤ → List ℕ → List ℕ → Work
applied e c v o m = together (status_of e) (changed e c) (written e v o m)
