-- `cmd_flow::tested`.
use mathlib.Core.Path.{◌≡◌, sym, ◌∙◌}
use mathlib.Core.Bool.{true, false}
use lib.Dec.{eqb}
use borrow.Author.Tests.{eq-eqb, ne_eqb, not-true, not-false}
use Rattle.waiting.specs.Waiting.{tested}
use Rattle.cmd_turns.specs.Deed.{doing}
use Rattle.cmd_flow.proofs.tested.Goals as goal

pub returns-then-count-eq0 : goal.returns-then-count-eq0
unfolding tested doing
returns-then-count-eq0 c w p q r m h =
    let e : eqb w.count 0 ≡ true = eq-eqb _ _ (sym p ∙ c.if-count-eq0.true) in
    simp (eq-eqb _ _ c.if-kind-eq0.true, e)

pub returns-then-kind-eq0 : goal.returns-then-kind-eq0
unfolding tested
returns-then-kind-eq0 c w p q r m h =
    let e : eqb w.count 0 ≡ false = ne_eqb _ _ (λ t. c.if-count-eq0.false (p ∙ t)) in
    h ∙ simp (eq-eqb _ _ c.if-kind-eq0.true, e)

pub returns-then-happened : goal.returns-then-happened
unfolding tested doing
returns-then-happened c w p q r m h =
    simp (ne_eqb _ _ c.if-kind-eq0.false, ← c.happened.ensures, c.if-happened.true)

pub returns-then-not-timed : goal.returns-then-not-timed
unfolding tested
returns-then-not-timed c w p q r m h =
    let f : w.timed ≡ false = sym q ∙ not-true c.args.timed c.if-not-timed.true-raw in
    h ∙ simp (ne_eqb _ _ c.if-kind-eq0.false, ← c.happened.ensures, c.if-happened.false, f)

pub returns-then-count-eq0-2 : goal.returns-then-count-eq0-2
unfolding tested doing
returns-then-count-eq0-2 c w p q r m h =
    let e : eqb w.count 0 ≡ true = eq-eqb _ _ (sym p ∙ c.if-count-eq0-2.true) in
    let f : w.timed ≡ true = sym q ∙ not-false c.args.timed c.if-not-timed.false-raw in
    simp (ne_eqb _ _ c.if-kind-eq0.false, ← c.happened.ensures, c.if-happened.false, f, e)

pub returns : goal.returns
unfolding tested
returns c w p q r m h =
    let e : eqb w.count 0 ≡ false = ne_eqb _ _ (λ u. c.if-count-eq0-2.false (p ∙ u)) in
    let f : w.timed ≡ true = sym q ∙ not-false c.args.timed c.if-not-timed.false-raw in
    h ∙ simp (ne_eqb _ _ c.if-kind-eq0.false, ← c.happened.ensures, c.if-happened.false, f, e)
