-- Registers with one of a row changed, and nothing else; past the last of a row there is none.
use Rattle.std.specs.Prelude.{ℕ, ltb, ℤ, set}
use Rattle.words.specs.Word.{pick}
use Rattle.stack.specs.Stack.{emptied}
use Rattle.values.specs.Values.{set_value}
use Rattle.registers.specs.Registers.{with_depth}
use Rattle.board.specs.declared.Registers.{Registers}
use Rattle.reg_image.specs.With.{in_core, with_outputs, with_digital, with_analog, with_entries, with_values}

abbrev pub set_output : ℕ → ℕ → Registers → Registers
set_output i n r = with_outputs (pick (ltb i 4) (set r.outputs i n) r.outputs) r

abbrev pub set_digital : ℕ → ℕ → Registers → Registers
set_digital i n r = with_digital (pick (ltb i 2) (set r.digital i n) r.digital) r

abbrev pub set_analog : ℕ → ℤ → Registers → Registers
set_analog i z r = with_analog (pick (ltb i 3) (set r.analog i z) r.analog) r

abbrev pub set_entry : ℕ → ℕ → Registers → Registers
set_entry i n r = with_entries (pick (ltb i 8) (set r.entries i n) r.entries) r

-- "stack empty"
abbrev pub empty_stack : Registers → Registers
empty_stack r = with_entries emptied.entries (in_core (with_depth emptied.depth) r)

abbrev pub set_value_at : ℕ → ℤ → Registers → Registers
set_value_at i z r = with_values (set_value r.values i z) r
