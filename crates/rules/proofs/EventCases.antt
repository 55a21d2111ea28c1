-- What power-up, a sample and a tick leave, by what is refused. Assumes nothing.
use Prim.Native.Nat.{ℕ}
use mathlib.Core.Path.{◌≡◌}
use mathlib.Core.Bool.{true}
use mathlib.Core.List.{List}
use lib.Dec.{eqb}
use lib.ListN.{length}
use Rattle.words.proofs.Bools.{picked}
use Rattle.sampling.specs.Sample.{sample_in_range}
use Rattle.sampling.specs.declared.Sample.{Sample}
use Rattle.board.specs.Registers.{powered}
use Rattle.board.specs.Range.{registers_in_range}
use Rattle.board.specs.declared.Registers.{Registers}
use Rattle.rules.specs.Events.{Outcome, outcome, with_sample, with_tick, powered_up, sampled, ticked}

module _ (r : Registers) (P : Outcome → Type 0) where
  pub by-power-up : (s : List ℕ) → P (outcome 100 (powered s)) → P (outcome 20 r) → P (powered_up s r)
  unfolding powered_up
  by-power-up s done short = picked P (eqb (length s) 364) _ _ (λ _. done) short

  pub by-sample : (s : Sample) → (sample_in_range s ≡ true → P (outcome 100 (with_sample s r))) → P (outcome 21 r) → P (outcome 23 r)
      → P (sampled s r)
  unfolding sampled
  by-sample s done field handed-in = picked P (registers_in_range r) _ _ (λ _. picked P (sample_in_range s) _ _ done field) handed-in

  pub by-tick : P (outcome 100 (with_tick r)) → P (outcome 23 r) → P (ticked r)
  unfolding ticked
  by-tick done handed-in = picked P (registers_in_range r) _ _ (λ _. done) handed-in
