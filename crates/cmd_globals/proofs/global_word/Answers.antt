-- `cmd_globals::global_word`.
use mathlib.Core.Path.{ap, ◌∙◌}
use Rattle.values.specs.Values.{value_at}
use Rattle.rules.specs.Reading.{bit}
use Rattle.reg_image.specs.With.{with_address}
use Rattle.reg_image.specs.Image.{registers_of}
use Rattle.cmd_globals.proofs.Users.{reads-user, reads-running, reads-address, reads-global}
use Rattle.cmd_globals.proofs.global_word.Goals as goal

pub returns-then-bank-eq2 : goal.returns-then-bank-eq2
returns-then-bank-eq2 c =
    let x = c.args in
    let r = registers_of x.image.now in
    c.get_at.ensures ∙ ap (value_at r.values) c.bank_place.ensures
    ∙ reads-user (with_address x.address r.core) r.values x.bank x.number c.if-bank-eq2.true

pub returns-then-number-eq128 : goal.returns-then-number-eq128
returns-then-number-eq128 c =
    let x = c.args in
    let r = registers_of x.image.now in
    c.bit.ensures ∙ ap bit c.get.ensures
    ∙ reads-running (with_address x.address r.core) r.values x.bank x.number c.if-bank-eq2.false c.if-number-eq128.true

pub returns-then-number-eq130 : goal.returns-then-number-eq130
returns-then-number-eq130 c =
    let x = c.args in
    let r = registers_of x.image.now in
    c.of_bits.ensures
    ∙ reads-address (with_address x.address r.core) r.values x.bank x.number c.if-bank-eq2.false c.if-number-eq128.false c.if-number-eq130.true

pub returns : goal.returns
returns c =
    let x = c.args in
    let r = registers_of x.image.now in
    c.get_at-2.ensures ∙ ap (value_at r.values) c.bank_place-2.ensures
    ∙ reads-global (with_address x.address r.core) r.values x.bank x.number c.if-bank-eq2.false c.if-number-eq128.false c.if-number-eq130.false
