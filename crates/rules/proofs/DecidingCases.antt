-- What is decided, command by command. Assumes nothing.
use mathlib.Core.Path.{◌≡◌}
use mathlib.Core.List.{List}
use borrow.Author.Tests.{eqb-true}
use lib.Dec.{eqb}
use lib.IntN.{ℤ}
use Rattle.words.proofs.Bools.{picked}
use Rattle.wire.specs.declared.Command.{Command}
use Rattle.order.specs.Order.{compared_w}
use Rattle.sheet.specs.Places.{axis_place}
use Rattle.settings.specs.Settings.{bank_place}
use Rattle.registers.specs.declared.Core.{Core}
use Rattle.pins.specs.Pins.{bit_of}
use Rattle.rules.specs.Effects.{Effect, Restore, Output, Last}
use Rattle.rules.specs.Motion.{parameter, right_within, left_within, stop, move_to}
use Rattle.rules.specs.Assigning.{assign, take, keep}
use Rattle.rules.specs.Numbers as numbers
use Rattle.rules.specs.Deciding.{decided_by, decided}

-- what holds of every command's effect
pub record Each (c : Command) (core : Core) (values : List ℤ) (P : Effect → Type 0) : Type 0 where
  pub ror : c.number ≡ 1 → P (right_within (parameter 43 values).v c.value.v)
  pub rol : c.number ≡ 2 → P (left_within (parameter 43 values).v c.value.v)
  pub mst : c.number ≡ 3 → P stop
  pub mvp : c.number ≡ 4 → P (move_to c.kind c.value values)
  pub sap : c.number ≡ 5 → P (assign (axis_place c.kind) c.value values)
  pub stap : c.number ≡ 7 → P (keep (axis_place c.kind) values)
  pub rsap : c.number ≡ 8 → P (Restore (axis_place c.kind))
  pub sgp : c.number ≡ 9 → P (assign (bank_place c.motor c.kind) c.value values)
  pub stgp : c.number ≡ 11 → P (keep (bank_place c.motor c.kind) values)
  pub rsgp : c.number ≡ 12 → P (Restore (bank_place c.motor c.kind))
  pub sio : c.number ≡ 14 → P (Output c.kind (bit_of c.value.v))
  pub calc : c.number ≡ 19 → P (numbers.calc c.kind c.value core.accumulator core.x)
  pub comp : c.number ≡ 20 → P (Last (compared_w core.accumulator.v c.value.v))
  pub calcx : c.number ≡ 33 → P (numbers.calcx c.kind core.accumulator core.x)
  pub aap : c.number ≡ 34 → P (take (axis_place c.kind) core.accumulator values)
  pub agp : c.number ≡ 35 → P (take (bank_place c.motor c.kind) core.accumulator values)
  pub cle : P (numbers.clear c.kind core.flags)

-- holds of what is decided
pub by-command : (c : Command) (core : Core) (values : List ℤ) (P : Effect → Type 0) → Each c core values P → P (decided c core values)
unfolding decided_by
by-command c core values P each =
    let n = c.number in
    picked P (eqb n 1) _ _ (λ q. each.ror (eqb-true n 1 q))
    (picked P (eqb n 2) _ _ (λ q. each.rol (eqb-true n 2 q))
    (picked P (eqb n 3) _ _ (λ q. each.mst (eqb-true n 3 q))
    (picked P (eqb n 4) _ _ (λ q. each.mvp (eqb-true n 4 q))
    (picked P (eqb n 5) _ _ (λ q. each.sap (eqb-true n 5 q))
    (picked P (eqb n 7) _ _ (λ q. each.stap (eqb-true n 7 q))
    (picked P (eqb n 8) _ _ (λ q. each.rsap (eqb-true n 8 q))
    (picked P (eqb n 9) _ _ (λ q. each.sgp (eqb-true n 9 q))
    (picked P (eqb n 11) _ _ (λ q. each.stgp (eqb-true n 11 q))
    (picked P (eqb n 12) _ _ (λ q. each.rsgp (eqb-true n 12 q))
    (picked P (eqb n 14) _ _ (λ q. each.sio (eqb-true n 14 q))
    (picked P (eqb n 19) _ _ (λ q. each.calc (eqb-true n 19 q))
    (picked P (eqb n 20) _ _ (λ q. each.comp (eqb-true n 20 q))
    (picked P (eqb n 33) _ _ (λ q. each.calcx (eqb-true n 33 q))
    (picked P (eqb n 34) _ _ (λ q. each.aap (eqb-true n 34 q))
    (picked P (eqb n 35) _ _ (λ q. each.agp (eqb-true n 35 q))
    each.cle)))))))))))))))
