-- `text::print::Output::put_signed`.
use Rattle.std.proofs.Common.{ap, ◌∙◌, refl}
use lib.IntN.{ℤ, nat_abs}
use mir.Syntax.{w32}
use mir.ValLaws.{to_z-of_z}
use Rattle.text.proofs.Putting.{then-put, same-put, not_negative, negative}
use Rattle.text.proofs.print.Output.put_signed.Goals as goal
use Rattle.text.proofs.print.Output.put_signed.Goals.{then-n-lt0, else-n-lt0}

pub returns : goal.returns
returns c =
    let e = to_z-of_z w32 c.args.n c.ranges.n in
    let size = c.from.ensures ∙ c.unsigned_abs.ensures.value ∙ ap (λ (z : ℤ). nat_abs z) e in
    elim c.if-n-lt0.branch [
      | then-n-lt0 w ↦
          let rest = then-put _ _ _ _ _ _ w.put.ensures (rw w.self-is at c.put_decimal.ensures) (negative c.args.n _ (rw e at w.if-n-lt0.true) size) in
          then-put _ _ _ _ _ _ c.put_all.ensures rest refl
      | else-n-lt0 w ↦
          let rest = same-put _ _ _ _ (rw w.self-is at c.put_decimal.ensures) (not_negative c.args.n _ (rw e at w.if-n-lt0.false) size) in
          then-put _ _ _ _ _ _ c.put_all.ensures rest refl
    ]
