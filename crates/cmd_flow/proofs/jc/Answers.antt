-- `cmd_flow::jc`.
use borrow.Author.Rules.{rules}
use mathlib.Core.Path.{◌≡◌, refl, sym, ◌∙◌}
use mathlib.Core.Bool.{true, false}
use lib.Dec.{leb}
use Rattle.std.specs.Prelude.{Err}
use Rattle.jumping.specs.Jump.{jumps, is_address}
use Rattle.judge.specs.Judge.{judged, is_flow}
use Rattle.reg_image.specs.Image.{registers_of}
use Rattle.cmd_turns.specs.Turn.{through, flowed}
use Rattle.cmd_turns.specs.Deed.{doing, seen}
use Rattle.cmd_turns.proofs.Decides.{refuses, passes}
use Rattle.cmd_flow.proofs.jc.Goals as goal

pub returns-in_err-jc : goal.returns-in_err-jc
unfolding judged
returns-in_err-jc c n h m =
    let e = c.in_err-jc.field-0.0 in
    let same : c.from_residual.result ≡ Err e = search rules in
    rw same (refuses 21 c.args.c (seen c.args.accumulator n (registers_of c.args.image.now)) m true (leb c.args.c.kind 11) (is_address c.args.c.value.v) refl e c.in_err-jc.ensures refl)

pub returns-then-jumps : goal.returns-then-jumps
unfolding judged doing through is_flow flowed
returns-then-jumps c n h m =
    let x = c.args in
    let s = seen c.args.accumulator n (registers_of c.args.image.now) in
    let e : jumps x.c.kind x.accumulator.v s.core.last s.core.flags ≡ true = sym c.jumps.ensures ∙ c.if-jumps.true in
    simp c.address_of.ensures (sym (passes 21 x.c s m (sym c.in_ok-jc.ensures) ∙ simp e))

pub returns-else-jumps : goal.returns-else-jumps
unfolding judged doing through is_flow flowed
returns-else-jumps c n h m =
    let x = c.args in
    let s = seen c.args.accumulator n (registers_of c.args.image.now) in
    let e : jumps x.c.kind x.accumulator.v s.core.last s.core.flags ≡ false = sym c.jumps.ensures ∙ c.if-jumps.false in
    sym (passes 21 x.c s m (sym c.in_ok-jc.ensures) ∙ simp (e, h))
