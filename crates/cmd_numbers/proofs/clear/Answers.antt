-- `cmd_numbers::clear`.
use borrow.Author.Rules.{rules}
use mathlib.Core.Path.{◌≡◌, refl, sym}
use mathlib.Core.Bool.{true}
use lib.Dec.{leb}
use Rattle.std.specs.Prelude.{Err}
use Rattle.judge.specs.Judge.{judged, is_flow, is_reading}
use Rattle.rules.specs.Deciding.{worked, decided_by}
use Rattle.rules.specs.Numbers as numbers
use Rattle.cmd_turns.specs.Turn.{through}
use Rattle.cmd_turns.specs.Deed.{doing, seen}
use Rattle.cmd_turns.proofs.Decides.{refuses, passes}
use Rattle.cmd_numbers.proofs.clear.Goals as goal

pub returns-in_err-cle : goal.returns-in_err-cle
unfolding judged
returns-in_err-cle c r a n m =
    let e = c.in_err-cle.field-0.0 in
    let same : c.from_residual.result ≡ Err e = search rules in
    rw same (refuses 36 c.args.c (seen a n r) m true (leb c.args.c.kind 4) true refl e c.in_err-cle.ensures refl)

pub returns : goal.returns
unfolding judged doing through is_flow is_reading worked decided_by numbers.clear
returns c r a n m = sym (passes 36 c.args.c (seen a n r) m (sym c.in_ok-cle.ensures))
