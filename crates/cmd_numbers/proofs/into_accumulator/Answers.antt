-- `cmd_numbers::into_accumulator`.
use native.Mathlib.Omega.{arith}
use Rattle.std.proofs.lemmas.Grind.{common_steps}
use Rattle.rules.specs.Numbers.{into_accumulator}
use Rattle.cmd_turns.specs.Deed.{doing}
use Rattle.cmd_numbers.proofs.into_accumulator.Goals as goal

pub returns : goal.returns
unfolding doing into_accumulator
returns c r m = grind (arith, common_steps)
