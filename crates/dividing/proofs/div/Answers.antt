-- `dividing::div`.
use mir.Syntax.{w32}
use mir.Val.{SFits}
use mir.ValLaws.{to_z-of_z}
use borrow.Author.Rules.{rules}
use Rattle.std.proofs.Common.{arith}
use Rattle.std.proofs.lemmas.Grind.{common_steps}
use Rattle.dividing.proofs.Divisor.{wrap-quot}
use Rattle.dividing.proofs.div.Goals as goal

pub returns : goal.returns
returns c =
    let a = c.args.a.v in
    let b = c.args.b.v in
    let f : SFits w32 a = search rules in
    let g : SFits w32 b = search rules in
    grind (arith, common_steps, to_z-of_z, c.wrapping_div.ensures, wrap-quot a b f)
