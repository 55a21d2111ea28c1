-- `cmd_flow::waited`.
use borrow.Author.Rules.{rules}
use borrow.Author.Tests.{not-true, not-false}
use mathlib.Core.Path.{◌≡◌, refl, sym, ap, ◌∙◌}
use mathlib.Core.Bool.{true, false}
use lib.Dec.{leb, ltb}
use Rattle.std.specs.Prelude.{Err}
use Rattle.words.specs.declared.Word.{Word}
use Rattle.waiting.specs.Waiting.{not_negative, armed_from, armed_with, waited}
use Rattle.fields.specs.Fields as fields
use Rattle.judge.specs.Judge.{judged, is_flow}
use Rattle.reg_image.specs.Image.{registers_of}
use Rattle.cmd_turns.specs.Turn.{through, flowed}
use Rattle.cmd_turns.specs.Deed.{doing, seen}
use Rattle.cmd_turns.proofs.Decides.{drops, passes}
use Rattle.cmd_flow.proofs.waited.Goals as goal

pub returns-in_err-wait : goal.returns-in_err-wait
unfolding judged
returns-in_err-wait c n m =
    let x = c.args.c in
    let e = c.in_err-wait.field-0.0 in
    let same : c.from_residual.result ≡ Err e = search rules in
    rw same
    (drops 27 x (seen c.args.accumulator n (registers_of c.args.image.now)) m (fields.waits_there x.kind x.motor) (leb x.kind 3) (fields.waitable x.kind x.value.v) refl e c.in_err-wait.ensures refl)

pub returns-then-get : goal.returns-then-get
unfolding judged doing through is_flow flowed waited
returns-then-get c n m =
    let x = c.args in
    let r = registers_of x.image.now in
    let s = seen x.accumulator n r in
    let e : s.core.wait.armed ≡ true = sym c.get.ensures ∙ c.if-get.true in
    c.tested.ensures r.core.wait c.get-count.ensures c.get-timed.ensures s m refl
    ∙ sym (passes 27 x.c s m (sym c.in_ok-wait.ensures) ∙ simp e)

pub returns-then-not-not_negative : goal.returns-then-not-not_negative
unfolding judged doing through is_flow flowed waited
returns-then-not-not_negative c n m =
    let x = c.args in
    let s = seen c.args.accumulator n (registers_of c.args.image.now) in
    let e : s.core.wait.armed ≡ false = sym c.get.ensures ∙ c.if-get.false in
    let h : not_negative (armed_from x.c.kind x.c.value x.accumulator).v ≡ false =
    sym (c.not_negative.ensures ∙ ap (λ (w : Word). not_negative w.v) c.armed_from-from.ensures) ∙ not-true c.not_negative.result c.if-not-not_negative.true-raw in
    sym (passes 27 x.c s m (sym c.in_ok-wait.ensures) ∙ simp (e, h))

pub returns : goal.returns
unfolding judged doing through is_flow flowed waited
returns c n m =
    let x = c.args in
    let s = seen c.args.accumulator n (registers_of c.args.image.now) in
    let v = c.armed_from-from.result in
    let e : s.core.wait.armed ≡ false = sym c.get.ensures ∙ c.if-get.false in
    let h : not_negative (armed_from x.c.kind x.c.value x.accumulator).v ≡ true =
    sym (c.not_negative.ensures ∙ ap (λ (w : Word). not_negative w.v) c.armed_from-from.ensures) ∙ not-false c.not_negative.result c.if-not-not_negative.false-raw in
    c.tested-2.ensures (armed_with v.v) c.bits_of-count.ensures (ap (ltb 0) c.bits_of-count.ensures) s m refl
    ∙ sym (passes 27 x.c s m (sym c.in_ok-wait.ensures) ∙ simp (e, h, ← c.armed_from-from.ensures))
