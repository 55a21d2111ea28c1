-- `machine::program::run`.
use Prim.Native.Nat.{ℕ, ◌-◌, ◌<◌}
use native.Mathlib.Omega.{arith}
use mathlib.Core.Path.{refl, sym, ap, ◌∙◌}
use borrow.Author.Tests.{not-true, not-false}
use Rattle.status.specs.declared.Status.TheVariants.{Done}
use Rattle.rules.specs.Steps as board
use Rattle.reg_image.specs.Image.{registers_of}
use Rattle.cmd_turns.specs.declared.Left.TheVariants.{Goes}
use Rattle.cmd_turns.specs.Turn.{turn}
use Rattle.machine.specs.declared.Made.{Made}
use Rattle.machine.specs.Alone.{readied}
use Rattle.machine.proofs.Runs.{unused-low, steps-are, not-running, no-budget}
use Rattle.machine.proofs.program.run.Goals as goal

pub returns-then-not-get : goal.returns-then-not-get
returns-then-not-get c =
    let x = c.args in
    let e = sym (not-running x.program.now x.budget (registers_of x.image.now) x.store.now (sym c.get.ensures ∙ not-true c.get.result c.if-not-get.true-raw)) in (
      λ h.
          record {
            status = ap (λ (r : Made). r.status) c.none_made-then-not-get.ensures ∙ ap (λ (t : board.Steps). t.status) e;
            count = ap (λ (r : Made). r.steps) c.none_made-then-not-get.ensures ∙ ap (λ (t : board.Steps). t.steps) e;
            makes = ap (λ (t : board.Steps). t.registers) e;
            store = ap (λ (t : board.Steps). t.store) e;
            stays = λ t. t;
          },
      λ n. absurd (n c.in-Ok.ensures.1.long),
    )

pub returns-then-budget-eq0 : goal.returns-then-budget-eq0
returns-then-budget-eq0 c =
    let x = c.args in
    let e = sym (no-budget x.program.now x.budget (registers_of x.image.now) x.store.now c.if-budget-eq0.true) in (
      λ h.
          record {
            status = ap (λ (r : Made). r.status) c.none_made-then-budget-eq0.ensures ∙ ap (λ (t : board.Steps). t.status) e;
            count = ap (λ (r : Made). r.steps) c.none_made-then-budget-eq0.ensures ∙ ap (λ (t : board.Steps). t.steps) e;
            makes = ap (λ (t : board.Steps). t.registers) e;
            store = ap (λ (t : board.Steps). t.store) e;
            stays = λ t. t;
          },
      λ n. absurd (n c.in-Ok.ensures.1.long),
    )

pub overflow_sub-result : goal.overflow_sub-result
overflow_sub-result c =
    let w = rw c.in-Ok.ensures.1.same at c.walk-gone.ensures in
    let x = c.args in
    omega (arith, w.unused, unused-low x.program.now x.budget (turn (readied x.program.now (registers_of x.image.now)) x.store.now Done Goes))

pub returns : goal.returns
returns c =
    let w = rw c.in-Ok.ensures.1.same at c.walk-gone.ensures in
    let x = c.args in
    let on = sym c.get.ensures ∙ not-false c.get.result c.if-not-get.false-raw in
    let some : 0 < x.budget = omega (arith, c.if-budget-eq0.false) in (
      λ h.
          let e = sym (steps-are x.program.now h x.budget some (registers_of x.image.now) x.store.now on) in
          record {
            status = w.status ∙ ap (λ (t : board.Steps). t.status) e;
            count = ap (λ (u : ℕ). x.budget - u) w.unused ∙ ap (λ (t : board.Steps). t.steps) e;
            makes = w.makes ∙ ap (λ (t : board.Steps). t.registers) e;
            store = w.store ∙ ap (λ (t : board.Steps). t.store) e;
            stays = w.stays;
          },
      λ n. absurd (n c.in-Ok.ensures.1.long),
    )
