-- What a command in download mode leaves, by what is refused. Assumes nothing.
use Prim.Native.Nat.{ℕ, ◌+◌}
use mathlib.Core.Path.{◌≡◌}
use mathlib.Core.Bool.{false}
use mathlib.Core.List.{List}
use lib.Dec.{eqb, leb}
use Rattle.words.proofs.Bools.{picked, either}
use Rattle.wire.specs.declared.Command.{Command}
use Rattle.store.specs.Store.{put_record}
use Rattle.settings.specs.Settings.{locked}
use Rattle.status.specs.declared.Status.{Status}
use Rattle.status.specs.declared.Status.TheVariants.{Stored, Unknown, Value, Locked}
use Rattle.board.specs.declared.Registers.{Registers}
use Rattle.rules.specs.Outcome.{done, refused}
use Rattle.rules.specs.Storing.{Kept, kept, with_download, stored}

module _ (c : Command) (r : Registers) (p : List ℕ) (P : Kept → Type 0) where
  -- what holds of every refusal, and of the record written, holds of what is left
  pub by-stored : ((s : Status) → P (kept (refused s r) p))
      → (leb 1024 r.download.address ≡ false
      → P (kept (done Stored c.value (with_download (record { on = r.download.on; address = r.download.address + 1 }) r)) (put_record p r.download.address c)))
      → P (stored c r p)
  unfolding stored
  by-stored out done =
      picked P (eqb c.number 0) _ _ (λ _. out Unknown)
      (picked P (locked r.values) _ _ (λ _. out Locked) (either P (leb 1024 r.download.address) _ _ (λ _. out Value) done))
