-- A command of seven bytes, obeyed.
use Rattle.std.specs.Prelude.{ℕ, List, leb}
use Rattle.words.specs.Word.{pick}
use Rattle.words.specs.declared.Word.{Word}
use Rattle.wire.specs.declared.Command.{Command}
use Rattle.status.specs.declared.Status.{Status}
use Rattle.rules.specs.Direct.{Direct, directed}
use Rattle.board.specs.declared.Registers.{Registers}
use Rattle.rules.specs.Outcome.{Obeyed, Changed, changed, done}
use Rattle.rules.specs.Storing.{stored}
use Rattle.rules.specs.Controlling.{obeyed_control}

-- ---- direct mode
abbrev pub after_direct : Direct → Registers → Changed
after_direct d r =
    changed
    (done d.status d.value
    (record {
      core = d.core;
      download = r.download;
      outputs = d.outputs;
      digital = r.digital;
      analog = r.analog;
      entries = r.entries;
      values = d.values;
    }))
    d.store

unfoldable pub direct : Command → Registers → List ℕ → Changed
direct c r m = after_direct (directed c r.core r.values r.outputs r.digital r.analog m) r

-- ---- every command: control commands from 128 on; else stored in download mode; else in direct mode
pub record Outcome : Type 0 where
  pub registers : Registers
  pub program : List ℕ
  pub store : List ℕ
  pub status : Status
  pub value : Word

abbrev pub outcome : Obeyed → List ℕ → List ℕ → Outcome
outcome o p m = record { registers = o.registers; program = p; store = m; status = o.status; value = o.value }

unfoldable pub obeyed : Command → Registers → List ℕ → List ℕ → Outcome
obeyed c r p m =
    pick (leb 128 c.number) (outcome (obeyed_control c p r m).obeyed p (obeyed_control c p r m).store)
    (pick r.download.on (outcome (stored c r p).obeyed (stored c r p).program m)
    (outcome (direct c r m).obeyed p (direct c r m).store))
