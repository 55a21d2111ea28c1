-- `reg_range::ends_in_range`.
use Prim.Native.Nat.{ℕ}
use mathlib.Core.Bool.{Bool}
use lib.Dec.{leb}
use lib.ListN.{get_or}
use Rattle.sheet.specs.Rows.{rows}
use Rattle.values.specs.Values.{allowed_at}
use Rattle.reg_image.specs.Image.{registers_of}
use Rattle.reg_range.proofs.Regroup.{ends-filled}
use Rattle.reg_range.proofs.Wider.{wider-2}
use Rattle.reg_range.proofs.ends_in_range.Goals as goal

pub returns : goal.returns
returns c =
    let l = c.args.image.now in
    let n = c.told-image in
    let f : ℕ → Bool = allowed_at rows (registers_of l).values in
    simp (c.first_seven.ensures.all, c.allowed_at.ensures, c.allowed_at-2.ensures, c.allowed_at-3.ensures, c.allowed_at-4.ensures, c.allowed_at-5.ensures, c.allowed_at-6.ensures)
    (ends-filled (f 46) (f 6) (f 5) (f 4) (f 3) (leb (get_or l 96 0) 3) (f 1) (f 0) (f 2) (f 45) (f 42) (f 9) (f 8) (f 7) (wider-2 l n))
