-- `jumping::address_of`.
use borrow.Author.Tests.{lt-ltb, le-ltb}
use Rattle.jumping.specs.Jump.{address_of}
use Rattle.jumping.proofs.address_of.Goals as goal

pub returns-then-number-lt1024 : goal.returns-then-number-lt1024
unfolding address_of
returns-then-number-lt1024 c = simp (← c.bits_of-number.ensures, lt-ltb c.bits_of-number.result 1024 c.if-number-lt1024.true)

pub returns-else-number-lt1024 : goal.returns-else-number-lt1024
unfolding address_of
returns-else-number-lt1024 c = simp (← c.bits_of-number.ensures, le-ltb c.bits_of-number.result 1024 c.if-number-lt1024.false)
