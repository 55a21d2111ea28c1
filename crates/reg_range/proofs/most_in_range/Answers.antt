-- `reg_range::most_in_range`.
use Prim.Native.Nat.{ℕ}
use mathlib.Core.Bool.{Bool}
use lib.Dec.{leb}
use lib.ListN.{get_or}
use Rattle.sheet.specs.Rows.{rows}
use Rattle.values.specs.Values.{allowed_at, eight}
use Rattle.reg_image.specs.Image.{registers_of}
use Rattle.reg_range.proofs.Counts.{together}
use Rattle.reg_range.proofs.Regroup.{most-filled}
use Rattle.reg_range.proofs.Wider.{wider-13, wider-25}
use Rattle.reg_range.proofs.most_in_range.Goals as goal

pub returns : goal.returns
returns c =
    let l = c.args.image.now in
    let n = c.told-image in
    let f : ℕ → Bool = allowed_at rows (registers_of l).values in
    let k = together (together (together c.eight_allowed.ensures c.eight_allowed-2.ensures) c.eight_from_18.ensures) c.eight_from_10.ensures in
    simp (k.all, c.allowed_at.ensures, c.allowed_at-2.ensures)
    (most-filled (eight f 34) (eight f 26) (leb (get_or l 119 0) 2) (f 24) (f 23) (f 22) (f 21) (f 20) (f 19) (f 18) (f 17) (f 16) (f 15) (f 14) (leb (get_or l 107 0) 2147483648) (f 12) (f 11) (f 10) (f 25) (f 13) (wider-25 l n) (wider-13 l n))
