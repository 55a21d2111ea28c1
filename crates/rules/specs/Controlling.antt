-- Control commands: 128 to 135, 137 and 255, over the registers whole.
use Rattle.std.specs.Prelude.{ℕ, List, eqb, pos}
use Rattle.words.specs.Word.{pick, word}
use Rattle.words.specs.declared.Word.{Word}
use Rattle.wire.specs.declared.Command.{Command}
use Rattle.sheet.specs.Rows.{rows}
use Rattle.settings.specs.Settings.{locked}
use Rattle.registers.specs.Registers.{with_motion}
use Rattle.registers.specs.declared.Order.TheVariants.{Stopped}
use Rattle.status.specs.Status.{is_done}
use Rattle.status.specs.declared.Status.{Status}
use Rattle.resetting.specs.Resetting.{reset_values, reset_cells}
use Rattle.rules.specs.Control as control
use Rattle.board.specs.Registers.{powered}
use Rattle.rules.specs.Steps.{Turn, step_once}
use Rattle.board.specs.declared.Registers.{Registers}
use Rattle.rules.specs.Outcome.{Changed, changed, done, refused}

pub record Both : Type 0 where
  pub registers : Registers
  pub store : List ℕ

abbrev pub both : Registers → List ℕ → Both
both r m = record { registers = r; store = m }

abbrev pub with_place : control.Outcome → Registers → Registers
with_place o r =
    record {
      core = o.core;
      download = o.download;
      outputs = r.outputs;
      digital = r.digital;
      analog = r.analog;
      entries = o.entries;
      values = r.values;
    }

-- 128, 129, 131, 132, 133
unfoldable pub placed : Command → Registers → Registers
placed c r = with_place (control.controlled c r.core r.download r.entries) r

-- "137 value 1234: .. to defaults in memory and cells, order stopped"
unfoldable pub defaults : Registers → List ℕ → Both
defaults r m =
    both
    (record {
      core = with_motion (record { order = Stopped; velocity = word (pos 0) }) r.core;
      download = r.download;
      outputs = r.outputs;
      digital = r.digital;
      analog = r.analog;
      entries = r.entries;
      values = reset_values rows 103 r.values;
    })
    (reset_cells rows 103 m)

abbrev pub after_turn : Turn → Both
after_turn t = both t.registers t.store

-- "130 one step", 137, "255 value 1234: as power-up", and the others
unfoldable pub controlled : Command → List ℕ → Registers → List ℕ → Both
controlled c program r m =
    pick (eqb c.number 130) (after_turn (step_once program r m))
    (pick (eqb c.number 137) (defaults r m)
    (pick (eqb c.number 255) (both (powered m) m) (both (placed c r) m)))

-- refused, or done with what 134 and 135 read, or the value sent
abbrev pub judged_control : Command → Registers → Status
judged_control c r = control.judged c r.core.running r.download.on (locked r.values)

abbrev pub after_control : Status → Word → Both → Changed
after_control s w b = changed (done s w b.registers) b.store

unfoldable pub obeyed_control : Command → List ℕ → Registers → List ℕ → Changed
obeyed_control c program r m =
    pick (is_done (judged_control c r))
    (after_control (judged_control c r) (control.answer c r.core.running program) (controlled c program r m))
    (changed (refused (judged_control c r) r) m)
