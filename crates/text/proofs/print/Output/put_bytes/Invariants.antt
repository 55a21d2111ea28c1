-- `text::print::Output::put_bytes`: the pairs of the bytes so far are put.
use Rattle.std.proofs.Common.{take, ◌∷◌}
use Rattle.text.specs.Put.{Put, pairs_for}
use Rattle.text.proofs.print.Output.put_bytes.Given as goal

abbrev pub invariant-loop-byte : goal.invariant-loop-byte
invariant-loop-byte l = Put l.fn.self (32 ∷ pairs_for (take l.byte-index l.bytes)) l.self
