-- The registers before the first power-up, and what power-up makes of them.
use Rattle.std.specs.Prelude.{ℕ, false, List, pos, replicate}
use Rattle.order.specs.Order.{same_w}
use Rattle.sheet.specs.Rows.{rows}
use Rattle.sheet.specs.Places.{global_place}
use Rattle.values.specs.Values.{value_at, powered_values}
use Rattle.registers.specs.Registers.{powered_core, no_download}
use Rattle.board.specs.declared.Registers.{Registers}

-- before the first power-up
unfoldable pub unpowered : Registers
unpowered =
    record {
      core = powered_core false;
      download = no_download;
      outputs = replicate 4 0;
      digital = replicate 2 0;
      analog = replicate 3 (pos 0);
      entries = replicate 8 0;
      values = replicate 103 (pos 0);
    }

-- "Power-up takes each cell's value if it is in range, else the default. Non-stored parameters take defaults, registers are 0,
-- last comparison "equal", the stack empty, order stopped. Running exactly if global 77 is 1."
unfoldable pub powered : List ℕ → Registers
powered s =
    record {
      core = powered_core (same_w (value_at (powered_values rows s) (global_place 77)).v (pos 1));
      download = no_download;
      outputs = replicate 4 0;
      digital = replicate 2 0;
      analog = replicate 3 (pos 0);
      entries = replicate 8 0;
      values = powered_values rows s;
    }
