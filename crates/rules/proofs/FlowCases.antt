-- What a command of the program's flow leaves, command by command. Assumes nothing.
use Prim.Native.Nat.{ℕ}
use mathlib.Core.Path.{◌≡◌}
use mathlib.Core.Bool.{Bool, true}
use mathlib.Core.List.{List}
use borrow.Author.Tests.{eqb-true}
use lib.Dec.{eqb}
use lib.IntN.{ℤ}
use Rattle.words.proofs.Bools.{picked}
use Rattle.wire.specs.declared.Command.{Command}
use Rattle.registers.specs.declared.Core.{Core}
use Rattle.rules.specs.Flow.{Flow, flow, jumped, called, returned, halted, waited_step, flowed}

module _ (r : Command) (c : Core) (e : List ℕ) (values : List ℤ) (P : Flow → Type 0) where
  -- what holds whatever the command
  pub record Each : Type 0 where
    pub jc : (taken : Bool) → r.number ≡ 21 → P (flow (jumped taken r.value.v c) e)
    pub ja : r.number ≡ 22 → P (flow (jumped true r.value.v c) e)
    pub csub : r.number ≡ 23 → P (called r.value.v c e)
    pub rsub : r.number ≡ 24 → P (returned c e)
    pub wait : r.number ≡ 27 → P (flow (waited_step r.kind r.value c values) e)
    pub stop : P (halted c)

  -- holds of what is left
  pub by-command : Each → P (flowed r c e values)
  unfolding flowed
  by-command each =
      let n = r.number in
      picked P (eqb n 21) _ _ (λ q. each.jc _ (eqb-true n 21 q))
      (picked P (eqb n 22) _ _ (λ q. each.ja (eqb-true n 22 q))
      (picked P (eqb n 23) _ _ (λ q. each.csub (eqb-true n 23 q))
      (picked P (eqb n 24) _ _ (λ q. each.rsub (eqb-true n 24 q))
      (picked P (eqb n 27) _ _ (λ q. each.wait (eqb-true n 27 q)) each.stop))))
