-- What a command leaves, by its mode. Assumes nothing.
use Prim.Native.Nat.{ℕ}
use mathlib.Core.Path.{◌≡◌}
use mathlib.Core.Bool.{true}
use mathlib.Core.List.{List}
use lib.Dec.{leb}
use Rattle.words.proofs.Bools.{picked}
use Rattle.wire.specs.declared.Command.{Command}
use Rattle.board.specs.declared.Registers.{Registers}
use Rattle.rules.specs.Storing.{stored}
use Rattle.rules.specs.Controlling.{obeyed_control}
use Rattle.rules.specs.Obey.{Outcome, outcome, direct, obeyed}

module _ (c : Command) (r : Registers) (p m : List ℕ) (P : Outcome → Type 0) where
  -- what holds of each mode
  pub record Each : Type 0 where
    pub control : P (outcome (obeyed_control c p r m).obeyed p (obeyed_control c p r m).store)
    pub storing : r.download.on ≡ true → P (outcome (stored c r p).obeyed (stored c r p).program m)
    pub direct : P (outcome (direct c r m).obeyed p (direct c r m).store)

  -- holds of what is left
  pub by_mode : Each → P (obeyed c r p m)
  unfolding obeyed
  by_mode each = picked P (leb 128 c.number) _ _ (λ _. each.control) (picked P r.download.on _ _ each.storing each.direct)
