-- `text::scan::number_from`.
use Rattle.std.proofs.Common.{ℕ, sym, drop, rules, ap, ◌∙◌}
use mir.Syntax.{w64}
use mir.ValLaws.{to_z-of_z}
use Rattle.text.specs.Numbers.{signed_of}
use Rattle.text.proofs.Reading.{no_size, no_digit, no_number, one_number}
use Rattle.text.proofs.scan.number_from.Goals as goal

pub returns-in_err-size : goal.returns-in_err-size
returns-in_err-size c = rw c.from_residual.ensures (no_size _ _ c.in_err-size.ensures.value)

pub returns-then-count-eq0 : goal.returns-then-count-eq0
returns-then-count-eq0 c =
    let count = ap (λ (r : ℕ × ℕ). r.1) (c.in_ok-size.ensures.value).1 in
    no_digit _ _ (sym count ∙ c.if-count-eq0.true)

pub returns-in_err-number : goal.returns-in_err-number
returns-in_err-number c =
    let size = ap (λ (r : ℕ × ℕ). r.0) (c.in_ok-size.ensures.value).1 in
    let count = ap (λ (r : ℕ × ℕ). r.1) (c.in_ok-size.ensures.value).1 in
    let number = ap (signed_of c.args.minus) (sym size) ∙ sym c.in_err-number.ensures in
    rw c.from_residual-in_err-number.ensures (no_number _ _ (λ e. c.if-count-eq0.false (count ∙ e)) number)

pub returns : goal.returns
returns c =
    let size = ap (λ (r : ℕ × ℕ). r.0) (c.in_ok-size.ensures.value).1 in
    let count = ap (λ (r : ℕ × ℕ). r.1) (c.in_ok-size.ensures.value).1 in
    let number = ap (signed_of c.args.minus) (sym size) ∙ sym c.in_ok-number.ensures in
    let rest = c.split_at.ensures.back ∙ ap (λ (n : ℕ). drop n c.args.text.now) count in
    rw (to_z-of_z w64 c.in_ok-number.number (search rules), rest) (one_number _ _ (λ e. c.if-count-eq0.false (count ∙ e)) _ number)
