-- `machine::frame::direct`.
use mathlib.Core.Path.{refl, sym, ◌∙◌}
use borrow.Author.Tests.{eqb-true}
use lib.Dec.{eqb}
use Rattle.words.proofs.Bools.{each}
use Rattle.wire.specs.Frame.{command_at}
use Rattle.machine.proofs.Framed.{behind}
use Rattle.machine.proofs.Shown.{flow-refused}
use Rattle.machine.proofs.frame.direct.Goals as goal

pub returns-then-frame-ne9 : goal.returns-then-frame-ne9
returns-then-frame-ne9 c = (λ h. absurd (c.if-frame-ne9.true h), λ _. (c.refused.ensures, record { image = refl; store = refl }))

pub returns-then-is_flow : goal.returns-then-is_flow
returns-then-is_flow c =
    let x = c.args in
    (λ _. flow-refused x.image.now c.command_in-c.result (command_at x.frame.now 1) (behind x.frame.now _ c.command_in-c.ensures) (sym c.is_flow.ensures ∙ c.if-is_flow.true) x.store.now c.refused-then-is_flow.result c.refused-then-is_flow.ensures, λ n. absurd (n c.if-frame-ne9.false))

pub returns-then-reads_address : goal.returns-then-reads_address
returns-then-reads_address c =
    let x = c.args in
    let t = each (eqb c.command_in-c.result.number 10) (eqb c.command_in-c.result.kind 130) (sym c.reads_address.ensures ∙ c.if-reads_address.true) in
    (λ _. rw (behind x.frame.now _ c.command_in-c.ensures) at (c.show_address.ensures (eqb-true _ _ t.0) (eqb-true _ _ t.1) x.store.now), λ n. absurd (n c.if-frame-ne9.false))

pub obey_record-requires : goal.obey_record-requires
obey_record-requires c =
    let x = c.args in
    (c.if-frame-ne9.false, behind x.frame.now _ c.command_in-c.ensures, sym c.is_flow.ensures ∙ c.if-is_flow.false, sym c.reads_address.ensures ∙ c.if-reads_address.false)

pub returns : goal.returns
returns c =
    let x = c.args in
    (λ _. rw (behind x.frame.now _ c.command_in-c.ensures) at c.obey_record.ensures, λ n. absurd (n c.if-frame-ne9.false))
