-- "In download mode .. commands 1..127 are stored at the write address with 101, which then rises by one; command 0 gets 2; then
-- lock 5; then 4 at write address 1,024."
use Rattle.std.specs.Prelude.{ℕ, ◌+◌, List, eqb, leb}
use Rattle.words.specs.Word.{pick}
use Rattle.wire.specs.declared.Command.{Command}
use Rattle.store.specs.Store.{put_record}
use Rattle.settings.specs.Settings.{locked}
use Rattle.registers.specs.declared.Download.{Download}
use Rattle.status.specs.declared.Status.TheVariants.{Stored, Unknown, Value, Locked}
use Rattle.board.specs.declared.Registers.{Registers}
use Rattle.rules.specs.Outcome.{Obeyed, done, refused}

-- what is left, with the program store
pub record Kept : Type 0 where
  pub obeyed : Obeyed
  pub program : List ℕ

abbrev pub kept : Obeyed → List ℕ → Kept
kept o p = record { obeyed = o; program = p }

-- registers with another write address, and nothing else changed
abbrev pub with_download : Download → Registers → Registers
with_download d r =
    record {
      core = r.core;
      download = d;
      outputs = r.outputs;
      digital = r.digital;
      analog = r.analog;
      entries = r.entries;
      values = r.values;
    }

unfoldable pub stored : Command → Registers → List ℕ → Kept
stored c r p =
    pick (eqb c.number 0) (kept (refused Unknown r) p)
    (pick (locked r.values) (kept (refused Locked r) p)
    (pick (leb 1024 r.download.address) (kept (refused Value r) p)
    (kept
    (done Stored c.value (with_download (record { on = r.download.on; address = r.download.address + 1 }) r))
    (put_record p r.download.address c))))
