-- What a control command leaves of the scalars, the download and the stack, command by command. Assumes nothing.
use Prim.Native.Nat.{ℕ}
use mathlib.Core.Path.{◌≡◌}
use mathlib.Core.Bool.{Bool, true, false}
use mathlib.Core.List.{List}
use borrow.Author.Tests.{eqb-true}
use lib.Dec.{eqb}
use Rattle.words.proofs.Bools.{picked, either}
use Rattle.wire.specs.declared.Command.{Command}
use Rattle.registers.specs.Registers.{with_wait, with_running, stopped}
use Rattle.waits.specs.Waits.{dropped_wait}
use Rattle.registers.specs.declared.Core.{Core}
use Rattle.registers.specs.declared.Download.{Download}
use Rattle.jumping.specs.Jump.{address_of}
use Rattle.rules.specs.Beginning.{Placed, placed, afresh}
use Rattle.rules.specs.Control.{Outcome, with, begun, ended, started, controlled}

-- afresh at an address, running or not
abbrev pub from : ℕ → Bool → Core → Placed
from a running c = placed (with_running running (afresh a c).core) (afresh a c).entries

module _ (c : Command) (core : Core) (d : Download) (e : List ℕ) (P : Outcome → Type 0) where
  -- what holds whatever the command
  pub record Each : Type 0 where
    pub stop : P (with (placed (stopped core) e) d)
    pub go : P (with (placed (with_running true core) e) d)
    pub go_from : c.number ≡ 129 → eqb c.kind 0 ≡ false → P (with (from (address_of c.value.v) true core) d)
    pub reset : P (with (from 0 false core) (ended d))
    pub start : P (with (placed (with_wait dropped_wait core) e) (started c.value.v))
    pub end : P (with (placed core e) (ended d))
    pub other : P (with (placed core e) d)

  -- holds of what is left
  pub by-command : Each → P (controlled c core d e)
  unfolding controlled begun
  by-command each =
      let n = c.number in
      picked P (eqb n 128) _ _ (λ _. each.stop)
      (picked P (eqb n 129) _ _
      (λ q. either (λ (p : Placed). P (with p d)) (eqb c.kind 0) _ _ (λ _. each.go) (each.go_from (eqb-true n 129 q)))
      (picked P (eqb n 131) _ _ (λ _. each.reset)
      (picked P (eqb n 132) _ _ (λ _. each.start)
      (picked P (eqb n 133) _ _ (λ _. each.end) each.other))))
