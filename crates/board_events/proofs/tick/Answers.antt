-- `board_events::tick`.
use borrow.Author.Tests.{not-true, not-false}
use mathlib.Core.Path.{◌≡◌, refl, sym, ◌∙◌}
use mathlib.Core.Bool.{true, false}
use Rattle.rules.specs.Events.{with_tick}
use Rattle.reg_image.specs.Image.{registers_of}
use Rattle.reg_range.specs.Range.{stands}
use Rattle.board_events.specs.Events.{tick_status}
use Rattle.board_events.proofs.Answers.{done, refused, so_left}
use Rattle.board_events.proofs.tick.Goals as goal

pub returns-then-not-in_range : goal.returns-then-not-in_range
unfolding tick_status
returns-then-not-in_range c =
    let x = c.in_range in
    let l = c.args.image.now in
    let e : stands l ≡ false = sym x.ensures ∙ not-true x.result c.if-not-in_range.true-raw in
    refused (tick_status l) 23 (with_tick (registers_of l)) l (simp e) refl

pub returns : goal.returns
unfolding tick_status
returns c =
    let x = c.in_range in
    let l = c.args.image.now in
    let e : stands l ≡ true = sym x.ensures ∙ not-false x.result c.if-not-in_range.false-raw in
    done (tick_status l) (with_tick (registers_of l)) l _ (simp e) (so_left with_tick l _ e c.put_tick.ensures)
