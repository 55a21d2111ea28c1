-- `machine::steps::go`.
use Prim.Native.Nat.{◌+◌, ◌-◌, ◌<◌}
use native.Mathlib.Omega.{arith}
use mathlib.Core.Path.{◌≡◌, refl, sym, ◌∙◌}
use borrow.Author.Tests.{not-true, not-false}
use Rattle.cmd_turns.specs.Deed.{seen}
use Rattle.reg_image.specs.Image.{registers_of}
use Rattle.machine.proofs.Keeps.{same, both}
use Rattle.machine.proofs.Goings.{over, past, again, ended}
use borrow.Author.Rules.{rules}
use Rattle.machine.proofs.steps.go.Goals as goal

pub loop-made-init : goal.loop-made-init
loop-made-init c = let all : c.args.budget - 0 ≡ c.args.budget = omega arith in (rw all refl, λ t. t, refl, same _)

pub step-stepped-requires : goal.step-stepped-requires
step-stepped-requires c =
    let p = c.requires in
    (c.if-records-there.false, p.0, p.1)

pub returns-then-records-there : goal.returns-then-records-there
returns-then-records-there c =
    let x = c.args in
    let left : 0 < x.budget - c.loop-made.made = omega arith in
    record {
      makes =
          past x.program.now x.first x.records (x.budget - c.loop-made.made) (seen c.loop-made.accumulator c.loop-made.there (registers_of c.loop-made.image)) c.loop-made.store c.loop-made.status _ c.loop-made.invariant.0 left c.if-records-there.true;
      kept = c.loop-made.invariant.3;
      stays = c.loop-made.invariant.1;
    }

pub returns-then-not-goes_on : goal.returns-then-not-goes_on
returns-then-not-goes_on c =
    let x = c.args in
    let left : 0 < x.budget - c.loop-made.made = omega arith in
    record {
      makes =
          ended x.program.now x.first x.records (x.budget - c.loop-made.made) (seen c.loop-made.accumulator c.loop-made.there (registers_of c.loop-made.image)) c.loop-made.store c.loop-made.status _ c.loop-made.invariant.0 left c.step-stepped.result _ _ c.step-stepped.ensures.makes
          (sym c.goes_on.ensures ∙ not-true c.goes_on.result c.if-not-goes_on.true-raw);
      kept = both _ _ _ c.loop-made.invariant.3 c.step-stepped.ensures.kept;
      stays = λ e. c.step-stepped.ensures.stays (c.loop-made.invariant.1 e);
    }

pub loop-made-preserved : goal.loop-made-preserved
loop-made-preserved c =
    let x = c.args in
    let left : 0 < x.budget - c.loop-made.made = omega arith in
    let next : x.budget - (c.loop-made.made + 1) ≡ x.budget - c.loop-made.made - 1 = omega arith in (
      rw next
          (again x.program.now x.first x.records (x.budget - c.loop-made.made) (seen c.loop-made.accumulator c.loop-made.there (registers_of c.loop-made.image)) c.loop-made.store c.loop-made.status _ c.loop-made.invariant.0 left c.step-stepped.result _ _ c.step-stepped.ensures.makes
          (sym c.goes_on.ensures ∙ not-false c.goes_on.result c.if-not-goes_on.false-raw)),
      λ e. c.step-stepped.ensures.stays (c.loop-made.invariant.1 e),
      search rules,
      both _ _ _ c.loop-made.invariant.3 c.step-stepped.ensures.kept,
    )

pub returns : goal.returns
returns c =
    let x = c.args in
    let none : x.budget - c.loop-made.made ≡ 0 = omega arith in
    record {
      makes =
          rw none at (over x.program.now x.first x.records (x.budget - c.loop-made.made) (seen c.loop-made.accumulator c.loop-made.there (registers_of c.loop-made.image)) c.loop-made.store c.loop-made.status _ c.loop-made.invariant.0 (omega (arith, none)));
      kept = c.loop-made.invariant.3;
      stays = c.loop-made.invariant.1;
    }
