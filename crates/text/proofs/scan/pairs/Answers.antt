-- `text::scan::pairs`.
use Rattle.std.proofs.Common.{arith, sym, ◌∙◌, ◌≡◌, ◌≤◌, ◌<◌, length}
use borrow.Author.Tests.{eqb-true, eqb-false}
use Rattle.text.proofs.Pairs.{full, no_pair, one_pair, odd, none-left, all-read, took_some, took_none}
use Rattle.text.proofs.scan.pairs.Goals as goal
use Rattle.text.proofs.scan.pairs.Goals.{else-is_empty-via-then-is_empty+else-count-gt0, else-is_empty-via-else-is_empty}

pub loop-pair-preserved : goal.loop-pair-preserved
loop-pair-preserved c =
    let l = c.loop-pair in
    let s = c.in-Some.ensures.cases in
    let h : 2 ≤ length l.rest.now = omega (arith, s.2) in
    let k : l.count < 64 = omega (arith, l.invariant.1, c.if-count-eq64.false) in
    (one_pair _ _ _ h s.0 s.1 l.count l.room k _ c.in_ok-byte.ensures ∙ l.invariant.0, omega (arith, k))

pub loop-pair-smaller : goal.loop-pair-smaller
loop-pair-smaller c = let s = c.in-Some.ensures.cases in omega (arith, s.2)

pub returns-in_err-byte : goal.returns-in_err-byte
returns-in_err-byte c =
    let l = c.loop-pair in
    let s = c.in-Some.ensures.cases in
    let h : 2 ≤ length l.rest.now = omega (arith, s.2) in
    rw c.from_residual.ensures (took_none _ _ (sym l.invariant.0 ∙ no_pair _ _ _ h s.0 s.1 l.count l.room c.in_err-byte.ensures))

pub returns-then-count-eq64 : goal.returns-then-count-eq64
returns-then-count-eq64 c =
    let l = c.loop-pair in
    let s = c.in-Some.ensures.cases in
    let h : 2 ≤ length l.rest.now = omega (arith, s.2) in
    let k : 64 ≤ l.count = omega (arith, c.if-count-eq64.true) in
    took_none _ _ (sym l.invariant.0 ∙ full _ _ _ h s.0 s.1 l.count l.room k)

pub returns-then-count-gt0 : goal.returns-then-count-gt0
returns-then-count-gt0 c =
    let l = c.loop-pair in
    let e = eqb-true _ 0 (sym c.is_empty.ensures ∙ c.if-is_empty.true) in
    took_some _ _ _ (sym l.invariant.0 ∙ all-read l.rest.now l.count l.room e c.if-count-gt0.true) l.invariant.1

pub returns-else-is_empty : goal.returns-else-is_empty
returns-else-is_empty c =
    let l = c.loop-pair in
    elim c.else-is_empty.branch [
      | else-is_empty-via-then-is_empty+else-count-gt0 w ↦
          let e : length l.rest.now ≡ 0 = eqb-true _ 0 (sym c.is_empty.ensures ∙ w.if-is_empty.true) in
          let z : l.count ≡ 0 = omega (arith, w.if-count-gt0.false) in
          took_none _ _ (sym l.invariant.0 ∙ none-left l.rest.now l.count l.room e z)
      | else-is_empty-via-else-is_empty w ↦
          let n = eqb-false _ 0 (sym c.is_empty.ensures ∙ w.if-is_empty.false) in
          took_none _ _ (sym l.invariant.0 ∙ odd l.rest.now l.count l.room c.in_default.ensures.cases n)
    ]
