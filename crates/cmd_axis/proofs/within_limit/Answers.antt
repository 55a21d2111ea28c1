-- `cmd_axis::within_limit`.
use borrow.Author.Rules.{rules}
use mir.Syntax.{w32}
use mir.ValLaws.{to_z-of_z}
use Rattle.words.proofs.Signed.{test-sign}
use Rattle.words.proofs.Signed as signed
use Rattle.rules.proofs.Limits.{up, down}
use Rattle.cmd_axis.proofs.within_limit.Goals as goal

pub returns-then-v-ge0 : goal.returns-then-v-ge0
returns-then-v-ge0 c =
    let x = c.args in
    simp (to_z-of_z w32 x.limit.v (search rules), to_z-of_z w32 x.velocity.v (search rules))
    (up x.limit.v x.velocity.v (test-sign w32 x.velocity.v (search rules) c.if-v-ge0.true))

pub returns-else-v-ge0 : goal.returns-else-v-ge0
returns-else-v-ge0 c =
    let x = c.args in
    simp (to_z-of_z w32 x.limit.v (search rules), signed.down w32 x.velocity.v (search rules) c.if-v-ge0.false)
    (down x.limit.v x.velocity.v (test-sign w32 x.velocity.v (search rules) c.if-v-ge0.false))
