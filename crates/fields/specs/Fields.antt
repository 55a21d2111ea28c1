-- What motor or bank, type and value of a command decide by themselves: "Order: .. motor or bank 4, type 3, value 4". Commands are
-- those of "Direct commands" and "Program steps", by their numbers.
use Rattle.std.specs.Prelude.{ℕ, Bool, true, not, ◌&&◌, ◌||◌, eqb, leb, ltb, ℤ, pos, negsuc}
use Rattle.words.specs.Word.{pick}
use Rattle.wire.specs.declared.Command.{Command}
use Rattle.order.specs.Order.{same_w, in_range}
use Rattle.rows.specs.Row.{writes, stored}
use Rattle.sheet.specs.Rows.{rows, row_at}
use Rattle.sheet.specs.Places.{axis_place, global_in}
use Rattle.settings.specs.Settings.{bank_place, settable}
use Rattle.status.specs.Status.{in_order}
use Rattle.status.specs.declared.Status.{Status}
use Rattle.jumping.specs.Jump.{is_address}
use Rattle.waiting.specs.Waiting.{not_negative}

-- of the five tests of `in_order` only motor or bank, type and value are a matter of the bytes
abbrev pub by_bytes : Bool → Bool → Bool → Status
by_bytes motor kind value = in_order true motor kind value true

-- ---- "Axis commands want motor 0"
abbrev pub motor_zero : Command → Bool
motor_zero c = eqb c.motor 0

-- on the sheet, which has 43 axis parameters
abbrev pub readable : ℕ → Bool
readable n = ltb (axis_place n) 43

-- "3: type wrong, or access not allowed": RW or RWE, and RWE
unfoldable pub writable : ℕ → Bool
writable n = readable n && writes (row_at rows (axis_place n)).access

unfoldable pub storable : ℕ → Bool
storable n = readable n && stored (row_at rows (axis_place n)).access

-- 1 ROR, 2 ROL, 3 MST
abbrev pub motor_alone : Command → Status
motor_alone c = by_bytes (motor_zero c) true true

-- "4 MVP (type 0 ABS; 1 REL ..)"
abbrev pub mvp : Command → Status
mvp c = by_bytes (motor_zero c) (leb c.kind 1) true

-- 5 SAP, 6 GAP, 7 STAP and 8 RSAP, 34 AAP
unfoldable pub sap : Command → Status
sap c = by_bytes (motor_zero c) (writable c.kind) (settable (axis_place c.kind) c.value.v)

abbrev pub gap : Command → Status
gap c = by_bytes (motor_zero c) (readable c.kind) true

abbrev pub stap : Command → Status
stap c = by_bytes (motor_zero c) (storable c.kind) true

abbrev pub aap : Command → Status
aap c = by_bytes (motor_zero c) (writable c.kind) true

-- ---- "Globals, bank 0 .. Bank 2: 0 to 55"
abbrev pub is_bank : ℕ → Bool
is_bank bank = eqb bank 0 || eqb bank 2

-- bank 0: of the six globals 66, 73, 76, 77, 128, 130 all can be read, and the first four set
unfoldable pub has : ℕ → ℕ → Bool
has bank n = pick (eqb bank 2) (ltb n 56) (ltb (global_in n) 6)

unfoldable pub takes : ℕ → ℕ → Bool
takes bank n = pick (eqb bank 2) (ltb n 56) (ltb (global_in n) 4)

-- 9 SGP, 10 GGP, 35 AGP
unfoldable pub sgp : Command → Status
sgp c = by_bytes (is_bank c.motor) (takes c.motor c.kind) (settable (bank_place c.motor c.kind) c.value.v)

abbrev pub ggp : Command → Status
ggp c = by_bytes (is_bank c.motor) (has c.motor c.kind) true

abbrev pub agp : Command → Status
agp c = by_bytes (is_bank c.motor) (takes c.motor c.kind) true

-- "11 STGP, 12 RSGP (11 and 12: bank 2 only)"
abbrev pub stgp : Command → Status
stgp c = by_bytes (eqb c.motor 2) (ltb c.kind 56) true

-- ---- ports
-- "14 SIO (bank 2, port 0..3, value 0/1)"
abbrev pub sio : Command → Status
sio c = by_bytes (eqb c.motor 2) (leb c.kind 3) (in_range (pos 0) (pos 1) c.value.v)

-- "15 GIO (bank 0 port 0..1, bank 1 port 0..2, bank 2 port 0..3)"
abbrev pub last_port : ℕ → ℕ
last_port bank = pick (eqb bank 0) 1 (pick (eqb bank 1) 2 3)

abbrev pub gio : Command → Status
gio c = by_bytes (leb c.motor 2) (leb c.kind (last_port c.motor)) true

-- ---- numbers
-- 19 CALC: types 0 to 9, "zero divisor 4"
abbrev pub divides : ℕ → Bool
divides kind = eqb kind 3 || eqb kind 4

abbrev pub calculable : ℕ → ℤ → Bool
calculable kind z = pick (divides kind) (not (same_w z (pos 0))) true

abbrev pub calc : Command → Status
calc c = by_bytes true (leb c.kind 9) (calculable c.kind c.value.v)

-- 33 CALCX: types 0 to 10
abbrev pub calcx : Command → Status
calcx c = by_bytes true (leb c.kind 10) true

-- "36 CLE (0 ALL, 1 ETO, 2 EAL, 3 EDV, 4 EPO)"
abbrev pub cle : Command → Status
cle c = by_bytes true (leb c.kind 4) true

-- ---- the program's flow
-- 21 JC: types 0 to 11; "A jump or call target outside 0..1,023 is 4"
abbrev pub jc : Command → Status
jc c = by_bytes true (leb c.kind 11) (is_address c.value.v)

-- 22 JA, 23 CSUB
abbrev pub ja : Command → Status
ja c = by_bytes true true (is_address c.value.v)

-- "27 WAIT .. Types 1 to 3 want motor 0. TICKS -1 takes the accumulator ..; every other negative value is 4"
abbrev pub waits_there : ℕ → ℕ → Bool
waits_there kind motor = eqb kind 0 || ltb 3 kind || eqb motor 0

-- negsuc 0 is -1
abbrev pub waitable : ℕ → ℤ → Bool
waitable kind z = not_negative z || (eqb kind 0 && same_w z (negsuc 0))

abbrev pub wait : Command → Status
wait c = by_bytes (waits_there c.kind c.motor) (leb c.kind 3) (waitable c.kind c.value.v)
