-- `cmd_flow::rsub`.
use mathlib.Core.Path.{◌≡◌, ◌∙◌, sym}
use mathlib.Core.Bool.{true, false}
use lib.Dec.{eqb}
use borrow.Author.Tests.{eq-eqb, ne_eqb}
use Rattle.judge.specs.Judge.{judged, is_flow}
use Rattle.cmd_turns.specs.Turn.{turned, through, flowed}
use Rattle.cmd_turns.specs.Deed.{doing}
use Rattle.cmd_flow.proofs.rsub.Goals as goal

pub returns-then-depth-eq0 : goal.returns-then-depth-eq0
unfolding judged turned through is_flow flowed doing
returns-then-depth-eq0 c x r h a n m =
    let e : eqb r.core.depth 0 ≡ true = eq-eqb _ _ (h ∙ c.if-depth-eq0.true) in
    simp e

pub returns : goal.returns
unfolding judged turned through is_flow flowed doing
returns c x r h a n m =
    let e : eqb r.core.depth 0 ≡ false = ne_eqb _ _ (λ q. c.if-depth-eq0.false (sym h ∙ q)) in
    simp e
