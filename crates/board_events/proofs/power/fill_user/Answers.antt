-- `board_events::power::fill_user`: all from 48 up to the place are filled.
use Rattle.std.proofs.Common.{◌≡◌, ℕ, refl, subst, arith}
use Rattle.board_events.specs.Filling.{Fills}
use Rattle.board_events.proofs.Powering.{next}
use Rattle.board_events.proofs.power.fill_user.Goals as goal

pub loop-place-init : goal.loop-place-init
loop-place-init c = record { fills = λ f. f }

pub loop-place-preserved : goal.loop-place-preserved
loop-place-preserved c = next _ _ _ _ _ _ _ _ c.loop-place.invariant c.fill_variable.ensures refl

pub returns : goal.returns
returns c =
    let k = c.loop-place in
    let a = c.args in
    let e : k.place ≡ 103 = omega arith in
    subst (λ (n : ℕ). Fills a.cells.now 48 n a.image.now k.image) e k.invariant
