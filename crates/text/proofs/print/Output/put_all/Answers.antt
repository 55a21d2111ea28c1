-- `text::print::Output::put_all`.
use Rattle.std.proofs.Common.{arith, ◌-◌, ◌+◌, ◌≡◌, ◌∙◌, sym, refl, length}
use Rattle.std.proofs.lemmas.List.{take_all}
use Prim.Native.Nat.{min}
use Rattle.text.proofs.Putting.{with-part}
use Rattle.text.proofs.print.Output.put_all.Goals as goal

pub returns-then-text-room : goal.returns-then-text-room
returns-then-text-room c =
    let text = c.args.text.now in
    let end = c.self.inside.end in
    let all : length text ≡ min (65536 - end) (length text) = omega (arith, c.if-text-room.true) in
    let whole = c.copy_from_slice.ensures.after ∙ sym (take_all (length text) text (omega arith)) in
    with-part _ _ _ _ end (length text) _ c.self.told c.self.view_is c.self.invariant refl all whole

pub returns-else-text-room : goal.returns-else-text-room
returns-else-text-room c =
    let text = c.args.text.now in
    let end = c.self.inside.end in
    let part : 65536 - end ≡ min (65536 - end) (length text) = omega (arith, c.if-text-room.false) in
    let last : 65536 ≡ end + (65536 - end) = omega (arith, c.self.invariant) in
    with-part _ _ _ _ end (65536 - end) _ c.self.told c.self.view_is c.self.invariant last part c.copy_from_slice-else-text-room.ensures.after
