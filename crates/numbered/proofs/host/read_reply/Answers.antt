-- `numbered::host::read_reply`: each return by the tests that led to it.
use mathlib.Core.Path.{sym, ◌∙◌}
use borrow.Author.Tests.{eq-eqb, ne_eqb}
use lib.ListN.{length}
use Rattle.display.specs.Display.{read_of}
use Rattle.numbered.proofs.Five.{over}
use Rattle.numbered.proofs.host.read_reply.Goals as goal

pub returns-then-bytes-ne9 : goal.returns-then-bytes-ne9
unfolding read_of
returns-then-bytes-ne9 c =
    simp (c.clear.ensures, ne_eqb (length c.args.bytes.now) 9 c.if-bytes-ne9.true)

pub returns-then-is_right : goal.returns-then-is_right
unfolding read_of
returns-then-is_right c =
    simp (
      c.put_reply.ensures,
      c.reply_in-r.ensures,
      sym c.is_right.ensures ∙ c.if-is_right.true,
      eq-eqb (length c.args.bytes.now) 9 c.if-bytes-ne9.false,
    )

pub returns : goal.returns
unfolding read_of
returns c =
    simp (
      c.clear-2.ensures,
      c.put_reply.ensures,
      sym c.is_right.ensures ∙ c.if-is_right.false,
      eq-eqb (length c.args.bytes.now) 9 c.if-bytes-ne9.false,
      over,
    )
