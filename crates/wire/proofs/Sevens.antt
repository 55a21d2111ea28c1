-- Seven bytes written at a place change no length. Assumes nothing.
use mathlib.Core.Path.{◌≡◌}
use mathlib.Core.List.{List}
use Prim.Native.Nat.{ℕ, ◌+◌}
use lib.IntN.{ℤ}
use lib.ListN.{length, length-set}
use Rattle.words.proofs.Trips.{put_length}
use Rattle.wire.specs.Frame.{put_seven}

pub seven-length : (s : List ℕ) (at b c d : ℕ) (v : ℤ) → length (put_seven s at b c d v) ≡ length s
unfolding put_seven
seven-length s at b c d v = simp length-set (put_length s (at + 3) v)
