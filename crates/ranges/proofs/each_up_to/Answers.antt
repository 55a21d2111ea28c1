-- `ranges::each_up_to`.
use mathlib.Core.Path.{◌∙◌}
use Rattle.std.proofs.Common.{rules, tests}
use lib.IntN.{ℤ, pos}
use Rattle.std.proofs.lemmas.Iterator.{YieldsList-from_slice}
use Rattle.std.proofs.lemmas.Iterator.Search.{all_from_yields_List}
use Rattle.order.specs.Order.{in_range}
use Rattle.ranges.specs.Range.{each_up_to}
use Rattle.ranges.proofs.Every.{every-is}
use Rattle.ranges.proofs.each_up_to.Goals as goal

pub returns : goal.returns
unfolding each_up_to
returns c =
    let f = λ (z : ℤ). in_range (pos 0) c.args.high.v z in
    all_from_yields_List f _ _ c.all.result c.all.ensures.ran (YieldsList-from_slice c.args.numbers.now cc) (λ x b q k. search (rules, tests))
    ∙ every-is f c.args.numbers.now
