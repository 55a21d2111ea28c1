-- `text::scan::digits`.
use Rattle.std.proofs.Common.{arith, ◌+◌, ◌*◌, ◌-◌, ◌≡◌, get_or, sym, ap, ◌∙◌, drop, ℕ}
use Rattle.text.specs.Numbers.{leading_size}
use Rattle.text.proofs.Reading.{next-count, next-size, too_large}
use Rattle.text.proofs.scan.digits.Goals as goal

pub returns-in_err-checked_mul-clause-value : goal.returns-in_err-checked_mul-clause-value
returns-in_err-checked_mul-clause-value c =
    let l = c.loop-count in
    let d = sym c.is_ascii_digit.ensures.value ∙ c.if-not-is_ascii_digit.false in
    let full = c.in_err-checked_mul.ensures in
    rw c.from_residual.ensures (too_large c.args.text.now l.count l.size c.loop-count-test.true d l.invariant.1 _ (λ h. full (omega (arith, h))))

pub returns-in_err-size-clause-value : goal.returns-in_err-size-clause-value
returns-in_err-size-clause-value c =
    let l = c.loop-count in
    let d = sym c.is_ascii_digit.ensures.value ∙ c.if-not-is_ascii_digit.false in
    let full = c.in_err-size.ensures in
    let e = c.from.ensures ∙ c.saturating_sub.ensures in
    let f = (c.in_ok-checked_mul.ensures).1 in
    rw c.from_residual-in_err-size.ensures
    (too_large c.args.text.now l.count l.size c.loop-count-test.true d l.invariant.1 _ (λ h. full (omega (arith, h, e, f))))

pub loop-count-preserved : goal.loop-count-preserved
loop-count-preserved c =
    let l = c.loop-count in
    let d = sym c.is_ascii_digit.ensures.value ∙ c.if-not-is_ascii_digit.false in
    let e = c.from.ensures ∙ c.saturating_sub.ensures in
    let f = (c.in_ok-checked_mul.ensures).1 in
    let g = (c.in_ok-size.ensures).1 in
    let s : c.in_ok-size.size ≡ l.size * 10 + (get_or c.args.text.now l.count 0 - 48) = omega (arith, e, f, g) in (
      omega (arith, (c.in_ok-size.ensures).0, g),
      ap (λ (n : ℕ). leading_size n (drop (l.count + 1) c.args.text.now)) s
          ∙ next-size c.args.text.now l.count l.size c.loop-count-test.true d l.invariant.1,
      next-count c.args.text.now l.count l.size c.loop-count-test.true d l.invariant.2,
    )
