-- `board_events::sample`.
use borrow.Author.Tests.{not-true, not-false}
use mathlib.Core.Path.{◌≡◌, refl, sym, ap, ◌∙◌}
use mathlib.Core.Bool.{true, false}
use Rattle.sampling.specs.Sample.{sample_in_range}
use Rattle.rules.specs.Events.{with_sample}
use Rattle.reg_image.specs.Image.{registers_of, Leaves}
use Rattle.reg_image.proofs.Places.{then}
use Rattle.reg_range.specs.Range.{stands}
use Rattle.board_events.specs.Events.{sample_of, sample_status}
use Rattle.board_events.proofs.Answers.{done, refused, so_left}
use Rattle.board_events.proofs.sample.Goals as goal

pub returns-then-not-in_range : goal.returns-then-not-in_range
unfolding sample_status
returns-then-not-in_range c =
    let x = c.in_range in
    let a = c.args in
    let l = a.image.now in
    let f = a.fields.now in
    let e : stands l ≡ false = sym x.ensures ∙ not-true x.result c.if-not-in_range.true-raw in
    refused (sample_status f l) 23 (with_sample (sample_of f) (registers_of l)) l (simp e) refl

pub returns-then-not-in_range-2 : goal.returns-then-not-in_range-2
unfolding sample_status
returns-then-not-in_range-2 c =
    let y = c.in_range-2 in
    let s = c.sample_of in
    let x = c.in_range in
    let a = c.args in
    let l = a.image.now in
    let f = a.fields.now in
    let e : stands l ≡ true = sym x.ensures ∙ not-false x.result c.if-not-in_range.false-raw in
    let g : sample_in_range (sample_of f) ≡ false = sym (y.ensures ∙ ap sample_in_range s.ensures) ∙ not-true y.result c.if-not-in_range-2.true-raw in
    refused (sample_status f l) 21 (with_sample (sample_of f) (registers_of l)) l (simp (e, g)) refl

pub returns : goal.returns
unfolding sample_status
returns c =
    let y = c.in_range-2 in
    let s = c.sample_of in
    let x = c.in_range in
    let a = c.args in
    let l = a.image.now in
    let f = a.fields.now in
    let m = c.readings.new.image in
    let e : stands l ≡ true = sym x.ensures ∙ not-false x.result c.if-not-in_range.false-raw in
    let g : sample_in_range (sample_of f) ≡ true = sym (y.ensures ∙ ap sample_in_range s.ensures) ∙ not-false y.result c.if-not-in_range-2.false-raw in
    let d : Leaves (with_sample (sample_of f)) l m = then _ _ _ _ _ (then _ _ _ _ _ c.alarms.ensures c.inputs.ensures) c.readings.ensures in
    done (sample_status f l) (with_sample (sample_of f) (registers_of l)) l m (simp (e, g)) (so_left (with_sample (sample_of f)) l m e d)
