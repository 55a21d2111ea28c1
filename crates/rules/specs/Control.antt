-- "Control (3.6.28; details ours)". The order of refusals is that of every command: "2, 6, motor or bank 4, type 3, value 4,
-- lock 5"; a control command has no motor.
use Rattle.std.specs.Prelude.{ℕ, ◌+◌, ◌*◌, Bool, true, false, not, ◌&&◌, List, eqb, leb, ℤ, pos}
use Rattle.words.specs.Word.{pick, word, of_bits}
use Rattle.words.specs.declared.Word.{Word}
use Rattle.wire.specs.declared.Command.{Command}
use Rattle.order.specs.Order.{same_w}
use Rattle.store.specs.Store.{record_at}
use Rattle.registers.specs.Registers.{with_wait, with_running, stopped}
use Rattle.waits.specs.Waits.{dropped_wait}
use Rattle.registers.specs.declared.Core.{Core}
use Rattle.registers.specs.declared.Download.{Download}
use Rattle.rules.specs.Beginning.{Placed, placed, afresh, reset}
use Rattle.jumping.specs.Jump.{is_address, address_of}
use Rattle.rules.specs.Reading.{bit}
use Rattle.status.specs.Status.{in_order}
use Rattle.status.specs.declared.Status.{Status}
use Rattle.status.specs.declared.Status.TheVariants.{Done, Unknown}

-- ---- refusals
-- "137 value 1234", "255 value 1234"
abbrev pub is1234 : ℤ → Bool
is1234 z = same_w z (pos 1234)

-- "129 run (type 0 from the present address; type 1 from value 0..1,023 ..)"
abbrev pub begins : ℕ → ℤ → Bool
begins kind z = pick (eqb kind 0) true (is_address z)

-- "130 one step (6 if running ..)", "132 .. at value 0..1,023 (.. 6 if running)", "134 .. type 0 .., type 1 ..; address in value,
-- 0..1,023", "137 .. (6 if running)", "In download mode 129 and 130 get 6"; "While locked, 5 goes to .. 132, 137". The five tests:
-- available (6), motor (4), type (3), value (4), lock (5).
unfoldable pub judged : Command → Bool → Bool → Bool → Status
judged c running downloading locked =
    pick (eqb c.number 128) Done
    (pick (eqb c.number 129) (in_order (not downloading) true (leb c.kind 1) (begins c.kind c.value.v) true)
    (pick (eqb c.number 130) (in_order (not running && not downloading) true true true true)
    (pick (eqb c.number 131) Done
    (pick (eqb c.number 132) (in_order (not running) true true (is_address c.value.v) (not locked))
    (pick (eqb c.number 133) Done
    (pick (eqb c.number 134) (in_order true true (leb c.kind 1) (is_address c.value.v) true)
    (pick (eqb c.number 135) Done
    (pick (eqb c.number 137) (in_order (not running) true true (is1234 c.value.v) (not locked))
    (pick (eqb c.number 255) (in_order true true true (is1234 c.value.v) true)
    Unknown)))))))))

-- ---- what is left of the scalars, the download and the stack
pub record Outcome : Type 0 where
  pub core : Core
  pub download : Download
  pub entries : List ℕ

abbrev pub with : Placed → Download → Outcome
with p d = record { core = p.core; download = d; entries = p.entries }

-- 129
unfoldable pub begun : ℕ → ℤ → Core → List ℕ → Placed
begun kind z c e =
    pick (eqb kind 0) (placed (with_running true c) e)
    (placed (with_running true (afresh (address_of z) c).core) (afresh (address_of z) c).entries)

-- "download ended"
abbrev pub ended : Download → Download
ended d = record { on = false; address = d.address }

-- "132 start download at value 0..1,023 (wait dropped ..)"
abbrev pub started : ℤ → Download
started z = record { on = true; address = address_of z }

-- "128 stop (address and stack kept, wait dropped)", 129, "131 reset (.., download ended)", 132, "133 end it (100 if none)"
unfoldable pub controlled : Command → Core → Download → List ℕ → Outcome
controlled c core d e =
    pick (eqb c.number 128) (with (placed (stopped core) e) d)
    (pick (eqb c.number 129) (with (begun c.kind c.value.v core e) d)
    (pick (eqb c.number 131) (with (reset core) (ended d))
    (pick (eqb c.number 132) (with (placed (with_wait dropped_wait core) e) (started c.value.v))
    (pick (eqb c.number 133) (with (placed core e) (ended d))
    (with (placed core e) d)))))

-- ---- what is read
-- "134 read the program store (type 0 the record's value, type 1 command x 65,536 + type x 256 + motor; address in value ..)"
abbrev pub head_of : Command → Word
head_of r = word (of_bits (r.number * 65536 + r.kind * 256 + r.motor))

unfoldable pub shown : ℕ → ℤ → List ℕ → Word
shown kind z program =
    pick (eqb kind 0) (record_at program (address_of z)).value (head_of (record_at program (address_of z)))

-- 134, "135 running 0/1", else "the value sent"
unfoldable pub answer : Command → Bool → List ℕ → Word
answer c running program =
    pick (eqb c.number 134) (shown c.kind c.value.v program)
    (pick (eqb c.number 135) (bit running) c.value)
