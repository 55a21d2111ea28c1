-- `resetting::reset_cells`: all before the place are reset.
use Rattle.std.proofs.Common.{◌≡◌, ℕ, subst, arith}
use Rattle.sheet.specs.Rows.{rows}
use Rattle.resetting.specs.Resetting.{reset_cells}
use Rattle.resetting.proofs.Ones.{no_cells, one_cell}
use Rattle.resetting.proofs.reset_cells.Goals as goal

pub loop-place-init : goal.loop-place-init
loop-place-init c = no_cells rows _

pub loop-place-preserved : goal.loop-place-preserved
loop-place-preserved c = one_cell rows c.loop-place.place _ c.reset_cell.ensures c.loop-place.invariant

pub returns : goal.returns
returns c =
    let e : c.loop-place.place ≡ 103 = omega arith in
    subst (λ (n : ℕ). c.loop-place.store ≡ reset_cells rows n c.args.store.now) e c.loop-place.invariant
