-- `stack::with_entry`.
use borrow.Author.Rules.{rules}
use Rattle.stack.proofs.Anew.{anew}
use Rattle.stack.proofs.with_entry.Goals as goal

pub returns : goal.returns
returns c =
    let x = c.args in
    simp (c.entry_with-8.ensures, c.entry_with-7.ensures, c.entry_with-6.ensures, c.entry_with-5.ensures, c.entry_with-4.ensures, c.entry_with-3.ensures, c.entry_with-2.ensures, c.entry_with.ensures) (anew x.entries x.at x.address (search rules))
