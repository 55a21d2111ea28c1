-- `machine::steps::decide`.
use mathlib.Core.Path.{◌≡◌, refl, sym, ap, ◌∙◌}
use mathlib.Core.List.{List}
use Prim.Native.Nat.{ℕ}
use lib.ListN.{get_or}
use borrow.Author.Tests.{ne_eqb}
use Rattle.wire.specs.Frame.{command_at}
use Rattle.wire.specs.declared.Command.{Command}
use Rattle.status.specs.declared.Status.TheVariants.{Unknown}
use Rattle.board.specs.declared.Registers.{Registers}
use Rattle.judge.specs.Judge.{judged, is_flow}
use Rattle.judge.proofs.Numbered.{told}
use Rattle.reg_image.specs.Image.{registers_of}
use Rattle.cmd_turns.specs.Turn.{turned, through, flowed}
use Rattle.cmd_turns.specs.Deed.{doing, seen}
use Rattle.cmd_turns.specs.declared.Deed.TheVariants.{Nothing}
use Rattle.machine.proofs.steps.decide.Goals as goal

-- what the judge does not know stops
nothing : (e : Command) (r : Registers) (m : List ℕ) → judged e ≡ Unknown → doing Nothing r m ≡ turned e r m
unfolding turned doing
nothing e r m j = rw j

pub returns-then-number-eq23 : goal.returns-then-number-eq23
returns-then-number-eq23 c =
    let r = seen c.args.accumulator c.args.address (registers_of c.args.image.now) in
    c.csub.ensures (registers_of c.args.image.now) (sym c.get-depth.ensures) c.args.accumulator c.args.address c.args.store.now
    ∙ ap (λ (e : Command). turned e r c.args.store.now) (told 23 c.command_in-then-number-eq23.result (command_at c.args.seven.now 0) c.command_in-then-number-eq23.ensures (sym c.requires.0 ∙ c.if-number-eq23.true))

pub returns-then-number-eq24 : goal.returns-then-number-eq24
returns-then-number-eq24 c =
    let r = seen c.args.accumulator c.args.address (registers_of c.args.image.now) in
    c.rsub.ensures (command_at c.args.seven.now 0) (registers_of c.args.image.now) (sym c.get-depth.ensures) c.args.accumulator c.args.address c.args.store.now
    ∙ ap (λ (e : Command). turned e r c.args.store.now) (told 24 (command_at c.args.seven.now 0) (command_at c.args.seven.now 0) refl (sym c.requires.0 ∙ c.if-number-eq24.true))

pub returns-in-1 : goal.returns-in-1
returns-in-1 c =
    let r = seen c.args.accumulator c.args.address (registers_of c.args.image.now) in
    c.right.ensures c.args.accumulator c.args.address c.args.store.now
    ∙ ap (λ (e : Command). turned e r c.args.store.now) (told 1 c.command_in.result (command_at c.args.seven.now 0) c.command_in.ensures (sym c.requires.0 ∙ c.in-1.is))

pub returns-in-2 : goal.returns-in-2
returns-in-2 c =
    let r = seen c.args.accumulator c.args.address (registers_of c.args.image.now) in
    c.left.ensures c.args.accumulator c.args.address c.args.store.now
    ∙ ap (λ (e : Command). turned e r c.args.store.now) (told 2 c.command_in-in-2.result (command_at c.args.seven.now 0) c.command_in-in-2.ensures (sym c.requires.0 ∙ c.in-2.is))

pub returns-in-3 : goal.returns-in-3
returns-in-3 c =
    let r = seen c.args.accumulator c.args.address (registers_of c.args.image.now) in
    c.stop.ensures (registers_of c.args.image.now) c.args.accumulator c.args.address c.args.store.now
    ∙ ap (λ (e : Command). turned e r c.args.store.now) (told 3 c.command_in-in-3.result (command_at c.args.seven.now 0) c.command_in-in-3.ensures (sym c.requires.0 ∙ c.in-3.is))

pub returns-in-4 : goal.returns-in-4
returns-in-4 c =
    let r = seen c.args.accumulator c.args.address (registers_of c.args.image.now) in
    c.mvp.ensures c.args.accumulator c.args.address c.args.store.now
    ∙ ap (λ (e : Command). turned e r c.args.store.now) (told 4 c.command_in-in-4.result (command_at c.args.seven.now 0) c.command_in-in-4.ensures (sym c.requires.0 ∙ c.in-4.is))

pub returns-in-5 : goal.returns-in-5
returns-in-5 c =
    let r = seen c.args.accumulator c.args.address (registers_of c.args.image.now) in
    c.sap.ensures (registers_of c.args.image.now) c.args.accumulator c.args.address c.args.store.now
    ∙ ap (λ (e : Command). turned e r c.args.store.now) (told 5 c.command_in-in-5.result (command_at c.args.seven.now 0) c.command_in-in-5.ensures (sym c.requires.0 ∙ c.in-5.is))

pub returns-in-6 : goal.returns-in-6
returns-in-6 c =
    let r = seen c.args.accumulator c.args.address (registers_of c.args.image.now) in
    c.gap.ensures c.args.accumulator c.args.address c.args.store.now
    ∙ ap (λ (e : Command). turned e r c.args.store.now) (told 6 c.command_in-in-6.result (command_at c.args.seven.now 0) c.command_in-in-6.ensures (sym c.requires.0 ∙ c.in-6.is))

pub returns-in-7 : goal.returns-in-7
returns-in-7 c =
    let r = seen c.args.accumulator c.args.address (registers_of c.args.image.now) in
    c.stap.ensures c.args.accumulator c.args.address c.args.store.now
    ∙ ap (λ (e : Command). turned e r c.args.store.now) (told 7 c.command_in-in-7.result (command_at c.args.seven.now 0) c.command_in-in-7.ensures (sym c.requires.0 ∙ c.in-7.is))

pub returns-in-8 : goal.returns-in-8
returns-in-8 c =
    let r = seen c.args.accumulator c.args.address (registers_of c.args.image.now) in
    c.rsap.ensures (registers_of c.args.image.now) c.args.accumulator c.args.address
    ∙ ap (λ (e : Command). turned e r c.args.store.now) (told 8 c.command_in-in-8.result (command_at c.args.seven.now 0) c.command_in-in-8.ensures (sym c.requires.0 ∙ c.in-8.is))

pub returns-in-9 : goal.returns-in-9
returns-in-9 c =
    let r = seen c.args.accumulator c.args.address (registers_of c.args.image.now) in
    c.sgp.ensures c.args.accumulator c.args.address c.args.store.now
    ∙ ap (λ (e : Command). turned e r c.args.store.now) (told 9 c.command_in-in-9.result (command_at c.args.seven.now 0) c.command_in-in-9.ensures (sym c.requires.0 ∙ c.in-9.is))

pub returns-in-10 : goal.returns-in-10
returns-in-10 c =
    let r = seen c.args.accumulator c.args.address (registers_of c.args.image.now) in
    c.ggp.ensures c.args.accumulator c.args.store.now
    ∙ ap (λ (e : Command). turned e r c.args.store.now) (told 10 c.command_in-in-10.result (command_at c.args.seven.now 0) c.command_in-in-10.ensures (sym c.requires.0 ∙ c.in-10.is))

pub returns-in-11 : goal.returns-in-11
returns-in-11 c =
    let r = seen c.args.accumulator c.args.address (registers_of c.args.image.now) in
    c.stgp.ensures c.args.accumulator c.args.address c.args.store.now
    ∙ ap (λ (e : Command). turned e r c.args.store.now) (told 11 c.command_in-in-11.result (command_at c.args.seven.now 0) c.command_in-in-11.ensures (sym c.requires.0 ∙ c.in-11.is))

pub returns-in-12 : goal.returns-in-12
returns-in-12 c =
    let r = seen c.args.accumulator c.args.address (registers_of c.args.image.now) in
    c.rsgp.ensures (registers_of c.args.image.now) c.args.accumulator c.args.address
    ∙ ap (λ (e : Command). turned e r c.args.store.now) (told 12 c.command_in-in-12.result (command_at c.args.seven.now 0) c.command_in-in-12.ensures (sym c.requires.0 ∙ c.in-12.is))

pub returns-in-14 : goal.returns-in-14
returns-in-14 c =
    let r = seen c.args.accumulator c.args.address (registers_of c.args.image.now) in
    c.sio.ensures (registers_of c.args.image.now) c.args.accumulator c.args.address c.args.store.now
    ∙ ap (λ (e : Command). turned e r c.args.store.now) (told 14 c.command_in-in-14.result (command_at c.args.seven.now 0) c.command_in-in-14.ensures (sym c.requires.0 ∙ c.in-14.is))

pub returns-in-15 : goal.returns-in-15
returns-in-15 c =
    let r = seen c.args.accumulator c.args.address (registers_of c.args.image.now) in
    c.gio.ensures c.args.accumulator c.args.address c.args.store.now
    ∙ ap (λ (e : Command). turned e r c.args.store.now) (told 15 c.command_in-in-15.result (command_at c.args.seven.now 0) c.command_in-in-15.ensures (sym c.requires.0 ∙ c.in-15.is))

pub returns-in-19 : goal.returns-in-19
returns-in-19 c =
    let r = seen c.args.accumulator c.args.address (registers_of c.args.image.now) in
    c.calc.ensures (registers_of c.args.image.now) c.args.address c.args.store.now
    ∙ ap (λ (e : Command). turned e r c.args.store.now) (told 19 c.command_in-in-19.result (command_at c.args.seven.now 0) c.command_in-in-19.ensures (sym c.requires.0 ∙ c.in-19.is))

pub returns-in-20 : goal.returns-in-20
returns-in-20 c =
    let r = seen c.args.accumulator c.args.address (registers_of c.args.image.now) in
    c.comp.ensures (registers_of c.args.image.now) c.args.address c.args.store.now
    ∙ ap (λ (e : Command). turned e r c.args.store.now) (told 20 c.command_in-in-20.result (command_at c.args.seven.now 0) c.command_in-in-20.ensures (sym c.requires.0 ∙ c.in-20.is))

pub returns-in-21 : goal.returns-in-21
returns-in-21 c =
    let r = seen c.args.accumulator c.args.address (registers_of c.args.image.now) in
    c.jc.ensures c.args.address c.requires.1 c.args.store.now
    ∙ ap (λ (e : Command). turned e r c.args.store.now) (told 21 c.command_in-in-21.result (command_at c.args.seven.now 0) c.command_in-in-21.ensures (sym c.requires.0 ∙ c.in-21.is))

pub returns-in-22 : goal.returns-in-22
returns-in-22 c =
    let r = seen c.args.accumulator c.args.address (registers_of c.args.image.now) in
    c.ja.ensures (registers_of c.args.image.now) c.args.accumulator c.args.address c.args.store.now
    ∙ ap (λ (e : Command). turned e r c.args.store.now) (told 22 c.command_in-in-22.result (command_at c.args.seven.now 0) c.command_in-in-22.ensures (sym c.requires.0 ∙ c.in-22.is))

pub returns-in-27 : goal.returns-in-27
returns-in-27 c =
    let r = seen c.args.accumulator c.args.address (registers_of c.args.image.now) in
    c.wait.ensures c.args.address c.args.store.now
    ∙ ap (λ (e : Command). turned e r c.args.store.now) (told 27 c.command_in-in-27.result (command_at c.args.seven.now 0) c.command_in-in-27.ensures (sym c.requires.0 ∙ c.in-27.is))

pub returns-in-28 : goal.returns-in-28
unfolding judged turned through is_flow flowed doing
returns-in-28 c =
    let e : get_or c.args.seven.now 0 0 ≡ 28 = sym c.requires.0 ∙ c.in-28.is in
    simp e

pub returns-in-33 : goal.returns-in-33
returns-in-33 c =
    let r = seen c.args.accumulator c.args.address (registers_of c.args.image.now) in
    c.calcx.ensures c.args.address c.args.store.now
    ∙ ap (λ (e : Command). turned e r c.args.store.now) (told 33 c.command_in-in-33.result (command_at c.args.seven.now 0) c.command_in-in-33.ensures (sym c.requires.0 ∙ c.in-33.is))

pub returns-in-34 : goal.returns-in-34
returns-in-34 c =
    let r = seen c.args.accumulator c.args.address (registers_of c.args.image.now) in
    c.aap.ensures (registers_of c.args.image.now) c.args.address c.args.store.now
    ∙ ap (λ (e : Command). turned e r c.args.store.now) (told 34 c.command_in-in-34.result (command_at c.args.seven.now 0) c.command_in-in-34.ensures (sym c.requires.0 ∙ c.in-34.is))

pub returns-in-35 : goal.returns-in-35
returns-in-35 c =
    let r = seen c.args.accumulator c.args.address (registers_of c.args.image.now) in
    c.agp.ensures c.args.address c.args.store.now
    ∙ ap (λ (e : Command). turned e r c.args.store.now) (told 35 c.command_in-in-35.result (command_at c.args.seven.now 0) c.command_in-in-35.ensures (sym c.requires.0 ∙ c.in-35.is))

pub returns-in-36 : goal.returns-in-36
returns-in-36 c =
    let r = seen c.args.accumulator c.args.address (registers_of c.args.image.now) in
    c.clear.ensures (registers_of c.args.image.now) c.args.accumulator c.args.address c.args.store.now
    ∙ ap (λ (e : Command). turned e r c.args.store.now) (told 36 c.command_in-in-36.result (command_at c.args.seven.now 0) c.command_in-in-36.ensures (sym c.requires.0 ∙ c.in-36.is))

pub returns-else-number-eq24 : goal.returns-else-number-eq24
unfolding judged
returns-else-number-eq24 c =
    let t = c.in_default.in_default-own.rest in
    let e = command_at c.args.seven.now 0 in
    let j : judged e ≡ Unknown = simp (
      ← c.requires.0,
      ne_eqb _ _ t.0.0.0.0.0.0.0.0.0.0.0.0.0.0.0.0.0.0.0.0.0.0.0.1,
      ne_eqb _ _ t.0.0.0.0.0.0.0.0.0.0.0.0.0.0.0.0.0.0.0.0.0.0.1,
      ne_eqb _ _ t.0.0.0.0.0.0.0.0.0.0.0.0.0.0.0.0.0.0.0.0.0.1,
      ne_eqb _ _ t.0.0.0.0.0.0.0.0.0.0.0.0.0.0.0.0.0.0.0.0.1,
      ne_eqb _ _ t.0.0.0.0.0.0.0.0.0.0.0.0.0.0.0.0.0.0.0.1,
      ne_eqb _ _ t.0.0.0.0.0.0.0.0.0.0.0.0.0.0.0.0.0.0.1,
      ne_eqb _ _ t.0.0.0.0.0.0.0.0.0.0.0.0.0.0.0.0.0.1,
      ne_eqb _ _ t.0.0.0.0.0.0.0.0.0.0.0.0.0.0.0.0.1,
      ne_eqb _ _ t.0.0.0.0.0.0.0.0.0.0.0.0.0.0.0.1,
      ne_eqb _ _ t.0.0.0.0.0.0.0.0.0.0.0.0.0.0.1,
      ne_eqb _ _ t.0.0.0.0.0.0.0.0.0.0.0.0.0.1,
      ne_eqb _ _ t.0.0.0.0.0.0.0.0.0.0.0.0.1,
      ne_eqb _ _ t.0.0.0.0.0.0.0.0.0.0.0.1,
      ne_eqb _ _ t.0.0.0.0.0.0.0.0.0.0.1,
      ne_eqb _ _ t.0.0.0.0.0.0.0.0.0.1,
      ne_eqb _ _ t.0.0.0.0.0.0.0.0.1,
      ne_eqb _ _ t.0.0.0.0.0.0.0.1,
      ne_eqb _ _ t.0.0.0.0.0.0.1,
      ne_eqb _ _ c.if-number-eq23.false,
      ne_eqb _ _ c.if-number-eq24.false,
      ne_eqb _ _ t.0.0.0.0.0.1,
      ne_eqb _ _ t.0.0.0.0.1,
      ne_eqb _ _ t.0.0.0.1,
      ne_eqb _ _ t.0.0.1,
      ne_eqb _ _ t.0.1,
      ne_eqb _ _ t.1,
    ) in
    nothing e (seen c.args.accumulator c.args.address (registers_of c.args.image.now)) c.args.store.now j
