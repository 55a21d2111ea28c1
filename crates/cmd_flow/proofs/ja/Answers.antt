-- `cmd_flow::ja`.
use borrow.Author.Rules.{rules}
use mathlib.Core.Path.{◌≡◌, refl, sym}
use mathlib.Core.Bool.{true}
use Rattle.std.specs.Prelude.{Err}
use Rattle.jumping.specs.Jump.{is_address}
use Rattle.judge.specs.Judge.{judged, is_flow}
use Rattle.cmd_turns.specs.Turn.{through, flowed}
use Rattle.cmd_turns.specs.Deed.{doing, seen}
use Rattle.cmd_turns.proofs.Decides.{refuses, passes}
use Rattle.cmd_flow.proofs.ja.Goals as goal

pub returns-in_err-ja : goal.returns-in_err-ja
unfolding judged
returns-in_err-ja c r a n m =
    let e = c.in_err-ja.field-0.0 in
    let same : c.from_residual.result ≡ Err e = search rules in
    rw same (refuses 22 c.args.c (seen a n r) m true true (is_address c.args.c.value.v) refl e c.in_err-ja.ensures refl)

pub returns : goal.returns
unfolding judged doing through is_flow flowed
returns c r a n m = simp c.address_of.ensures (sym (passes 22 c.args.c (seen a n r) m (sym c.in_ok-ja.ensures)))
