-- `reg_range::in_range`.
use Rattle.sheet.specs.Rows.{rows}
use Rattle.values.specs.Values.{allowed_at}
use Rattle.values.proofs.Scan.{parameters-allowed}
use Rattle.ranges.specs.Range.{entries_in_range, bits_in_range, analog_in_range}
use Rattle.registers.specs.Range.{core_in_range, download_in_range}
use Rattle.board.specs.Range.{registers_in_range}
use Rattle.reg_image.specs.Image.{shaped, registers_of}
use Rattle.reg_range.specs.Range.{stands}
use Rattle.reg_range.proofs.Regroup.{found}
use Rattle.reg_range.proofs.in_range.Goals as goal

pub returns : goal.returns
unfolding stands registers_in_range
returns c =
    let l = c.args.image.now in
    let r = registers_of l in
    let v = r.values in
    found (allowed_at rows v) (shaped l) (core_in_range r.core) (download_in_range r.download) (entries_in_range r.entries) (bits_in_range r.outputs) (bits_in_range r.digital) (analog_in_range r.analog) c.scalars_in_range.ensures c.most_in_range.ensures c.ends_in_range.ensures (parameters-allowed v)
