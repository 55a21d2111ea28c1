-- `settings::settable`.
use borrow.Author.Tests.{eq-eqb, ne_eqb}
use Rattle.settings.specs.Settings.{settable}
use Rattle.settings.proofs.settable.Goals as goal

pub returns-then-place-bank_place : goal.returns-then-place-bank_place
unfolding settable
returns-then-place-bank_place c = simp (c.is_key.ensures, ← c.bank_place.ensures, eq-eqb _ _ c.if-place-bank_place.true)

pub returns-else-place-bank_place : goal.returns-else-place-bank_place
unfolding settable
returns-else-place-bank_place c =
    simp (c.allowed.ensures, c.row_at.ensures, ← c.bank_place.ensures, ne_eqb _ _ c.if-place-bank_place.false)
