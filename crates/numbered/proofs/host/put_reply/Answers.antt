-- `numbered::host::put_reply`.
use mathlib.Core.Path.{◌≡◌}
use mir.Syntax.{w32}
use mir.Val.{of_z, to_z}
use borrow.Author.Rules.{rules}
use Rattle.std.proofs.Common.{arith}
use Rattle.std.proofs.lemmas.Int.{ints}
use Rattle.words.specs.Word.{of_bits}
use Rattle.numbered.proofs.Five.{whole}
use Rattle.numbered.proofs.host.put_reply.Goals as goal

pub returns : goal.returns
returns c =
    let x = c.args in
    let a : to_z w32 (of_z w32 c.from.result) ≡ of_bits x.to = omega (arith, ints) in
    let b : to_z w32 (of_z w32 c.from-2.result) ≡ of_bits x.from = omega (arith, ints) in
    let d : to_z w32 (of_z w32 c.from-3.result) ≡ of_bits x.status = omega (arith, ints) in
    let e : to_z w32 (of_z w32 c.from-4.result) ≡ of_bits x.command = omega (arith, ints) in
    let f : to_z w32 (of_z w32 x.value.v) ≡ x.value.v = search rules in
    simp (a, b, d, e, f)
    (whole (of_bits x.to) (of_bits x.from) (of_bits x.status) (of_bits x.command) x.value.v x.numbers.now (search (rules, c.told-numbers)))
