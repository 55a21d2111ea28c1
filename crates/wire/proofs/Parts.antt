-- The command at the start of a part is the one that stands at the part's place. Assumes nothing.
use mathlib.Core.Path.{◌≡◌}
use mathlib.Core.List.{List}
use Prim.Native.Nat.{ℕ, ◌≤◌}
use native.Mathlib.Omega.{arith}
use lib.ListN.{take, drop}
use Rattle.words.proofs.Parts.{byte-part, byte-within, word-within}
use Rattle.wire.specs.Frame.{command_at}

pub command-part : (s : List ℕ) (at n : ℕ) → 7 ≤ n → command_at (take n (drop at s)) 0 ≡ command_at s at
command-part s at n h =
    simp (
      byte-part s at n (omega arith),
      byte-within s at n 1 (omega arith),
      byte-within s at n 2 (omega arith),
      word-within s at n 3 (omega arith),
    )
