-- `cmd_numbers::calc`.
use borrow.Author.Rules.{rules}
use borrow.Author.Tests.{eq-eqb, ne_eqb}
use mathlib.Core.Path.{◌≡◌, refl, sym, ◌∙◌}
use mathlib.Core.Bool.{true}
use lib.Dec.{leb}
use Rattle.std.specs.Prelude.{Err}
use Rattle.fields.specs.Fields as fields
use Rattle.judge.specs.Judge.{judged, is_flow, is_reading}
use Rattle.rules.specs.Deciding.{worked, decided_by}
use Rattle.rules.specs.Numbers as numbers
use Rattle.cmd_turns.specs.Turn.{through}
use Rattle.cmd_turns.specs.Deed.{doing, seen}
use Rattle.cmd_turns.proofs.Decides.{refuses, passes}
use Rattle.cmd_numbers.proofs.calc.Goals as goal

pub returns-in_err-calc : goal.returns-in_err-calc
unfolding judged
returns-in_err-calc c r n m =
    let e = c.in_err-calc.field-0.0 in
    let same : c.from_residual.result ≡ Err e = search rules in
    rw same (refuses 19 c.args.c (seen c.args.accumulator n r) m true (leb c.args.c.kind 9) (fields.calculable c.args.c.kind c.args.c.value.v) refl e c.in_err-calc.ensures refl)

pub returns-then-c-eq9 : goal.returns-then-c-eq9
unfolding judged doing through is_flow is_reading worked decided_by numbers.calc
returns-then-c-eq9 c r n m =
    sym (passes 19 c.args.c (seen c.args.accumulator n r) m (sym c.in_ok-calc.ensures) ∙ simp (eq-eqb _ _ c.if-c-eq9.true))

pub returns : goal.returns
unfolding judged through is_flow is_reading worked decided_by numbers.calc
returns c r n m =
    let s = seen c.args.accumulator n r in
    c.into_accumulator.ensures s m
    ∙ simp c.calculate.ensures (sym (passes 19 c.args.c s m (sym c.in_ok-calc.ensures) ∙ simp (ne_eqb _ _ c.if-c-eq9.false)))
