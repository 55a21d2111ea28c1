-- `board_events::power::power_up`.
use borrow.Author.Tests.{not-true, not-false}
use mathlib.Core.Path.{◌≡◌, refl, sym, ap, ◌∙◌}
use mathlib.Core.Bool.{true, false}
use lib.IntN.{pos}
use Rattle.words.specs.declared.Word.{Word}
use Rattle.order.specs.Order.{same_w}
use Rattle.store.specs.Store.{is_parameter_store}
use Rattle.board.specs.Registers.{powered}
use Rattle.board_events.specs.Events.{power_status}
use Rattle.board_events.proofs.Answers.{done, refused}
use Rattle.board_events.proofs.Powering.{none_yet, powered-so}
use Rattle.board_events.proofs.power.power_up.Goals as goal

pub returns-then-not-is_parameter_store : goal.returns-then-not-is_parameter_store
unfolding power_status
returns-then-not-is_parameter_store c =
    let x = c.is_parameter_store in
    let a = c.args in
    let s = a.cells.now in
    let e : is_parameter_store s ≡ false = sym x.ensures ∙ not-true x.result c.if-not-is_parameter_store.true-raw in
    refused (power_status s) 20 (powered s) a.image.now (simp e) refl

pub returns : goal.returns
unfolding power_status
returns c =
    let x = c.is_parameter_store in
    let a = c.args in
    let s = a.cells.now in
    let q = c.equals-starts in
    let u = c.fill_user in
    let p = c.fill_parameters in
    let k = c.clear in
    let e : is_parameter_store s ≡ true = sym x.ensures ∙ not-false x.result c.if-not-is_parameter_store.false-raw in
    let f = u.ensures.fills (p.ensures.fills (none_yet s k.new.image k.ensures)) in
    let m = c.set.new.image in
    done (power_status s) (powered s) a.image.now m (simp e)
    (powered-so s u.new.image m q.result f (q.ensures ∙ ap (λ (w : Word). same_w w.v (pos 1)) c.get_at.ensures) c.set.ensures)
