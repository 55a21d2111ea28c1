use Rattle.std.proofs.Common.{◌≡◌, ℕ, List, arith, ap, ◌∙◌}
use Rattle.registers.specs.Registers.{with_depth}
use Rattle.reg_image.specs.With.{in_core, with_entries}
use Rattle.reg_image.specs.Image.{registers_of}
use Rattle.reg_image.proofs.Places.{then}
use Rattle.reg_image.proofs.Stack.{entries-length, cleared}
use Rattle.reg_image.proofs.whole.empty_stack.Goals as goal

pub returns : goal.returns
returns c =
    let l = c.args.image.now in
    let all : c.loop-place.place ≡ 8 = omega arith in
    let d = then _ _ _ _ _ c.set.ensures (rw all at c.loop-place.invariant) in
    record {
      makes =
          d.makes
          ∙ ap (λ (k : List ℕ). with_entries k (in_core (with_depth 0) (registers_of l))) (cleared (registers_of l).entries (entries-length l c.told-image));
      stays = d.stays;
    }
