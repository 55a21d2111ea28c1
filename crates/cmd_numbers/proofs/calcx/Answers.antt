-- `cmd_numbers::calcx`.
use borrow.Author.Rules.{rules}
use borrow.Author.Tests.{ne_eqb}
use mathlib.Core.Path.{◌≡◌, refl, sym, ◌∙◌}
use mathlib.Core.Bool.{true}
use lib.Dec.{leb}
use Rattle.std.specs.Prelude.{Err}
use Rattle.judge.specs.Judge.{judged, is_flow, is_reading}
use Rattle.rules.specs.Deciding.{worked, decided_by}
use Rattle.rules.specs.Numbers as numbers
use Rattle.reg_image.specs.Image.{registers_of}
use Rattle.cmd_turns.specs.Turn.{through}
use Rattle.cmd_turns.specs.Deed.{doing, seen}
use Rattle.cmd_turns.proofs.Decides.{refuses, passes}
use Rattle.cmd_numbers.proofs.calcx.Goals as goal

pub returns-in_err-calcx : goal.returns-in_err-calcx
unfolding judged
returns-in_err-calcx c n m =
    let e = c.in_err-calcx.field-0.0 in
    let same : c.from_residual.result ≡ Err e = search rules in
    rw same (refuses 33 c.args.c (seen c.args.accumulator n (registers_of c.args.image.now)) m true (leb c.args.c.kind 10) true refl e c.in_err-calcx.ensures refl)

pub returns-in-9 : goal.returns-in-9
unfolding judged doing through is_flow is_reading worked decided_by numbers.calcx
returns-in-9 c n m = sym (passes 33 c.args.c (seen c.args.accumulator n (registers_of c.args.image.now)) m (sym c.in_ok-calcx.ensures) ∙ simp c.in-9.is)

pub returns-in-10 : goal.returns-in-10
unfolding judged doing through is_flow is_reading worked decided_by numbers.calcx
returns-in-10 c n m =
    sym (passes 33 c.args.c (seen c.args.accumulator n (registers_of c.args.image.now)) m (sym c.in_ok-calcx.ensures) ∙ simp (c.in-10.is, ← c.get-x.ensures))

pub returns-in_default : goal.returns-in_default
unfolding judged through is_flow is_reading worked decided_by numbers.calcx
returns-in_default c n m =
    let s = seen c.args.accumulator n (registers_of c.args.image.now) in
    c.into_accumulator.ensures s m
    ∙ simp (c.calculate.ensures, c.get-x.ensures)
    (sym (passes 33 c.args.c s m (sym c.in_ok-calcx.ensures)
    ∙ simp (ne_eqb _ _ c.in_default.in_default-own.rest.0.1, ne_eqb _ _ c.in_default.in_default-own.rest.1)))
