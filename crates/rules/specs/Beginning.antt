-- Where a program begins: at an address, "stack emptied, wait dropped" (129 type 1, 131, STOP).
use Rattle.std.specs.Prelude.{ℕ, false, List}
use Rattle.stack.specs.Stack.{emptied}
use Rattle.registers.specs.Registers.{with_depth, with_running, moved}
use Rattle.registers.specs.declared.Core.{Core}

-- the scalars and the return addresses
pub record Placed : Type 0 where
  pub core : Core
  pub entries : List ℕ

abbrev pub placed : Core → List ℕ → Placed
placed c e = record { core = c; entries = e }

abbrev pub afresh : ℕ → Core → Placed
afresh a c = placed (with_depth emptied.depth (moved a c)) emptied.entries

-- "131 reset (stopped, address 0, stack empty, wait dropped ..)", "STOP stops, sets address 0 and empties the stack"
abbrev pub reset : Core → Placed
reset c = placed (with_running false (afresh 0 c).core) (afresh 0 c).entries
