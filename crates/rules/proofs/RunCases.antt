-- What a run leaves and answers, by what is refused. Assumes nothing.
use Prim.Native.Nat.{ℕ}
use mathlib.Core.Path.{◌≡◌}
use mathlib.Core.Bool.{true, false, ◌&&◌}
use mathlib.Core.List.{List}
use lib.Dec.{eqb, leb}
use lib.ListN.{length}
use Rattle.words.proofs.Bools.{picked}
use Rattle.board.specs.Range.{registers_in_range}
use Rattle.rules.specs.Steps.{steps}
use Rattle.board.specs.declared.Registers.{Registers}
use Rattle.rules.specs.RunEvent.{Answer, refused, after_steps, run}

module _ (program : List ℕ) (budget : ℕ) (r : Registers) (m : List ℕ) (P : Answer → Type 0) where
  -- what holds of every refusal, and of the steps where none is refused, holds of what a run leaves
  pub by-run : ((n : ℕ) → P (refused n r m))
      → (eqb (length program) 7168 && eqb (length m) 364 && (registers_in_range r && leb budget 1000) ≡ true → P (after_steps (steps false program budget r m)))
      → P (run program budget r m)
  unfolding run
  by-run out done =
      picked P (eqb (length program) 7168 && eqb (length m) 364) _ _
      (λ l. picked P (registers_in_range r) _ _ (λ h. picked P (leb budget 1000) _ _ (λ b. done (simp (l, h, b))) (out 22)) (out 23))
      (out 20)
