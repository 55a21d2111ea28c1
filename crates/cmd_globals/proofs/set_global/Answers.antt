-- `cmd_globals::set_global`.
use borrow.Author.Tests.{eq-eqb, ne_eqb}
use Rattle.cmd_globals.proofs.Users.{global-low}
use Rattle.cmd_globals.proofs.set_global.Goals as goal

pub returns-then-place-eq-LOCK : goal.returns-then-place-eq-LOCK
returns-then-place-eq-LOCK c = simp (c.lock_word.ensures, ← c.bank_place-place.ensures, eq-eqb _ _ c.if-place-eq-LOCK.true)

pub returns-then-locked : goal.returns-then-locked
returns-then-locked c =
    simp (← c.bank_place-place.ensures, ne_eqb _ _ c.if-place-eq-LOCK.false, ← c.locked.ensures, c.if-locked.true)

pub returns : goal.returns
returns c =
    let b = c.bank_place-place in
    simp (
      c.narrow.ensures.0 (rw b.ensures (global-low c.args.number)),
      ← b.ensures,
      ne_eqb _ _ c.if-place-eq-LOCK.false,
      ← c.locked.ensures,
      c.if-locked.false,
    )
