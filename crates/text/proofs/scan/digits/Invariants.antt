-- `text::scan::digits`: the size so far fits; going on with the digits that are left it is the size of all, and with their number the
-- count is that of all.
use Rattle.std.proofs.Common.{◌≡◌, ◌<◌, ◌+◌, drop}
use Rattle.text.specs.Numbers.{digit_count, leading_size}
use Rattle.text.proofs.scan.digits.Given as goal

abbrev pub invariant-loop-count : goal.invariant-loop-count
invariant-loop-count l =
    (l.size < 18446744073709551616)
    × (leading_size l.size (drop l.count l.text) ≡ leading_size 0 l.text)
    × (l.count + digit_count (drop l.count l.text) ≡ digit_count l.text)
