-- What a control command leaves of the registers and the parameter store. Assumes nothing.
use Prim.Native.Nat.{ℕ}
use mathlib.Core.Path.{◌≡◌}
use mathlib.Core.Bool.{true, false}
use mathlib.Core.List.{List}
use lib.Dec.{eqb}
use Rattle.words.proofs.Bools.{picked, either}
use Rattle.wire.specs.declared.Command.{Command}
use Rattle.status.specs.Status.{is_done}
use Rattle.rules.specs.Control as control
use Rattle.board.specs.Registers.{powered}
use Rattle.rules.specs.Steps.{step_once}
use Rattle.board.specs.declared.Registers.{Registers}
use Rattle.rules.specs.Outcome.{Changed, changed, refused}
use Rattle.rules.specs.Controlling.{Both, both, placed, defaults, after_turn, controlled, judged_control, after_control, obeyed_control}

module _ (c : Command) (program : List ℕ) (r : Registers) (m : List ℕ) where
  -- ---- carried out, command by command
  pub record Each (P : Both → Type 0) : Type 0 where
    pub step : P (after_turn (step_once program r m))
    pub defaults : P (defaults r m)
    pub up : P (both (powered m) m)
    pub other : P (both (placed c r) m)

  pub by-command : (P : Both → Type 0) → Each P → P (controlled c program r m)
  unfolding controlled
  by-command P each =
      let n = c.number in
      picked P (eqb n 130) _ _ (λ _. each.step)
      (picked P (eqb n 137) _ _ (λ _. each.defaults) (picked P (eqb n 255) _ _ (λ _. each.up) each.other))

  -- ---- or refused
  pub by-judge : (P : Changed → Type 0)
      → (is_done (judged_control c r) ≡ true → P (after_control (judged_control c r) (control.answer c r.core.running program) (controlled c program r m)))
      → (is_done (judged_control c r) ≡ false → P (changed (refused (judged_control c r) r) m))
      → P (obeyed_control c program r m)
  unfolding obeyed_control
  by-judge P = either P (is_done (judged_control c r)) _ _
