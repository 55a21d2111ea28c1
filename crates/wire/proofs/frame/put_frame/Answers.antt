-- `wire::frame::put_frame`: : nine stores leave a frame's nine bytes.
use mathlib.Core.Path.{◌≡◌, ap, ◌∙◌}
use mathlib.Core.List.{List, ◌∷◌}
use Prim.Native.Nat.{ℕ}
use borrow.Author.Tests.{eq-eqb, ne_eqb}
use native.Mathlib.Omega.{arith}
use lib.IntN.{ℤ}
use lib.ListN.{length, set, length-set}
use Rattle.words.specs.Bytes.{four_of, put_word}
use Rattle.words.specs.declared.Four.{Four}
use Rattle.checksum.specs.Checksum.{checksum}
use Rattle.checksum.proofs.Nine.{stored}
use Rattle.wire.specs.Frame.{seven, put_seven, frame}
use Rattle.wire.proofs.Sevens.{seven-length}
use Rattle.wire.proofs.frame.put_frame.Goals as goal

-- seven bytes, an address and their sum, written over nine bytes
made : (l m : List ℕ) (a b c d n : ℕ) (v : ℤ) (f : Four) → length l ≡ 9 → m ≡ put_seven l 1 b c d v → f ≡ four_of v → n ≡ checksum (a ∷ seven b c d f) → set (set m 0 a) 8 n ≡ frame a b c d v
unfolding put_seven put_word frame
made l m a b c d n v f h p q r =
    let g = four_of v in
    rw (p, r, q) (stored a b c d g.b3 g.b2 g.b1 g.b0 (checksum (a ∷ seven b c d g)) l h)

pub returns-then-out-ne9 : goal.returns-then-out-ne9
returns-then-out-ne9 c =
    let e = ne_eqb (length c.args.out.now) 9 c.if-out-ne9.true in
    record { status = simp e; left = simp e }

pub bounds-out-8 : goal.bounds-out-8
bounds-out-8 c =
    let x = c.args in
    let e = ap length c.put_seven.ensures ∙ seven-length x.out.now 1 x.b x.c x.d x.value.v in
    simp length-set (omega arith)

pub returns : goal.returns
returns c =
    let x = c.args in
    let h = c.if-out-ne9.false in
    let e = eq-eqb (length x.out.now) 9 h in
    record {
      status = simp e;
      left = simp e (made x.out.now _ x.address x.b x.c x.d _ x.value.v _ h c.put_seven.ensures c.four_of-v.ensures c.sum_of-sum.ensures);
    }
