-- `cmd_flow::csub`.
use borrow.Author.Rules.{rules}
use borrow.Author.Tests.{le-leb, lt-leb}
use mathlib.Core.Path.{◌≡◌, refl, sym, ap, ◌∙◌}
use mathlib.Core.Bool.{true, false}
use lib.Dec.{leb}
use Rattle.std.specs.Prelude.{Err}
use Rattle.jumping.specs.Jump.{is_address}
use Rattle.judge.specs.Judge.{judged, is_flow}
use Rattle.cmd_turns.specs.Turn.{through, flowed}
use Rattle.cmd_turns.specs.Deed.{doing, seen}
use Rattle.cmd_turns.proofs.Decides.{refuses, passes}
use Rattle.cmd_flow.proofs.csub.Goals as goal

pub returns-in_err-ja : goal.returns-in_err-ja
unfolding judged
returns-in_err-ja c r h a n m =
    let e = c.in_err-ja.field-0.0 in
    let same : c.from_residual.result ≡ Err e = search rules in
    rw same (refuses 23 c.args.c (seen a n r) m true true (is_address c.args.c.value.v) refl e c.in_err-ja.ensures refl)

pub returns-then-depth-ge8 : goal.returns-then-depth-ge8
unfolding judged doing through is_flow flowed
returns-then-depth-ge8 c r h a n m =
    let s = seen a n r in
    sym (passes 23 c.args.c s m (sym c.in_ok-ja.ensures) ∙ simp (h, le-leb _ _ c.if-depth-ge8.true))

pub returns : goal.returns
unfolding judged doing through is_flow flowed
returns c r h a n m =
    let s = seen a n r in
    let e : leb 8 s.core.depth ≡ false = ap (leb 8) h ∙ lt-leb _ _ c.if-depth-ge8.false in
    simp c.address_of.ensures (sym (passes 23 c.args.c s m (sym c.in_ok-ja.ensures) ∙ simp e))
