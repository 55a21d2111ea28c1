-- `global_fields::sgp`.
use mathlib.Core.Path.{◌≡◌}
use mathlib.Core.Bool.{true}
use mir.Syntax.{w32}
use mir.Val.{SFits}
use Rattle.settings.specs.Settings.{bank_place, settable}
use Rattle.settings.proofs.Users.{user-place, user-settable}
use Rattle.fields.specs.Fields.{sgp, takes}
use borrow.Author.Rules.{rules}
use Rattle.global_fields.proofs.sgp.Goals as goal

pub returns-then-bank-eq2 : goal.returns-then-bank-eq2
unfolding sgp takes
returns-then-bank-eq2 c =
    let x = c.args.c in
    let f : SFits w32 x.value.v = search rules in
    let any : settable (bank_place 2 x.kind) x.value.v ≡ true = rw (user-place x.kind) (user-settable x.kind x.value.v f) in
    simp (c.by_bytes.ensures, c.names.ensures, c.if-bank-eq2.true, any)

pub returns : goal.returns
unfolding sgp takes
returns c =
    simp (c.by_bytes-2.ensures, c.names-2.ensures, c.is_bank.ensures, c.settable-value.ensures, c.bank_place.ensures)
