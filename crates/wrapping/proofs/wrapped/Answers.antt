-- `wrapping::wrapped`.
use mathlib.Core.Path.{ap, ◌∙◌}
use mir.Syntax.{w64}
use mir.ValLaws.{to_z-of_z}
use Prim.Native.Nat.{ℕ}
use Rattle.words.specs.Word.{word, of_bits}
use Rattle.wrapping.specs.Wrap.{wrap}
use Rattle.wrapping.proofs.Wraps.{low-bits}
use Rattle.wrapping.proofs.wrapped.Goals as goal

pub returns : goal.returns
unfolding wrap
returns c =
    c.of_bits.ensures ∙ simp (c.cast_unsigned.ensures, to_z-of_z w64 c.args.z c.ranges.z) (ap (λ (u : ℕ). word (of_bits u)) (low-bits c.args.z c.ranges.z))
