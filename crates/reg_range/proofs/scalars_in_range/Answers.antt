-- `reg_range::scalars_in_range`.
use mathlib.Core.Path.{◌∙◌}
use Rattle.sheet.specs.Rows.{rows}
use Rattle.values.specs.Values.{allowed_at}
use Rattle.ranges.specs.Range.{entries_in_range, bits_in_range, each_up_to}
use Rattle.registers.specs.Range.{core_in_range}
use Rattle.reg_image.specs.Image.{registers_of}
use Rattle.reg_range.proofs.Counts.{together}
use Rattle.reg_range.proofs.Scalars.{scalar-places}
use Rattle.reg_range.proofs.scalars_in_range.Goals as goal

pub returns : goal.returns
unfolding registers_of core_in_range entries_in_range bits_in_range each_up_to
returns c =
    let l = c.args.image.now in
    let n = c.told-image in
    let f = allowed_at rows (registers_of l).values in
    (together (together (together c.first_places.ensures c.second_places.ensures) c.third_places.ensures) c.fourth_places.ensures).all
    ∙ scalar-places l n (f 43) (f 44)
