-- What 128, 129, 131 and 132 make of the registers, part by part.
use Rattle.std.specs.Prelude.{ℕ, Bool, false, ℤ}
use Rattle.stack.specs.Stack.{emptied}
use Rattle.registers.specs.Registers.{with_running, with_depth, moved}
use Rattle.registers.specs.declared.Core.{Core}
use Rattle.rules.specs.Control as control
use Rattle.board.specs.declared.Registers.{Registers}
use Rattle.reg_image.specs.With.{in_core, with_entries, with_download, downloading}
use Rattle.cmd_turns.specs.Turn.{dropped}

-- "stack emptied, wait dropped"
abbrev pub from : ℕ → Bool → Registers → Registers
from a on r =
    with_entries emptied.entries (in_core (λ (c : Core). with_running on (with_depth emptied.depth (moved a c))) r)

-- 129
abbrev pub begun : ℕ → ℤ → Registers → Registers
begun kind z r = with_entries (control.begun kind z r.core r.entries).entries (in_core (λ (c : Core). (control.begun kind z c r.entries).core) r)

-- 131
abbrev pub reset : Registers → Registers
reset r = downloading false (from 0 false r)

-- 132
abbrev pub started : ℤ → Registers → Registers
started z r = with_download (control.started z) (dropped r)
