-- `cmd_globals::port_word`.
use mathlib.Core.Path.{ap, ◌∙◌}
use Rattle.rules.specs.Reading.{number}
use Rattle.reg_image.specs.Image.{registers_of}
use Rattle.cmd_globals.proofs.Users.{digital-port, analog-port, output-port}
use Rattle.cmd_globals.proofs.port_word.Goals as goal

pub returns-in-0 : goal.returns-in-0
returns-in-0 c =
    let x = c.args in
    let r = registers_of x.image.now in
    c.of_bits.ensures ∙ ap number c.get_at.ensures
    ∙ digital-port r.outputs r.digital r.analog x.bank x.port c.in-0.is

pub returns-in-1 : goal.returns-in-1
returns-in-1 c =
    let x = c.args in
    let r = registers_of x.image.now in
    c.get_at-in-1.ensures ∙ analog-port r.outputs r.digital r.analog x.bank x.port c.in-1.is

pub returns-in_default : goal.returns-in_default
returns-in_default c =
    let x = c.args in
    let r = registers_of x.image.now in
    c.of_bits-in_default.ensures ∙ ap number c.get_at-in_default.ensures
    ∙ output-port r.outputs r.digital r.analog x.bank x.port c.in_default.in_default-own.rest.0.1 c.in_default.in_default-own.rest.1
