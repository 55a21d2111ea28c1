-- Addresses in values. Assumes nothing.
use Prim.Native.Nat.{◌<◌, ◌≤◌}
use native.Mathlib.Omega.{arith}
use borrow.Author.Tests.{ltb-true}
use lib.Dec.{ltb}
use lib.IntN.{ℤ}
use Rattle.words.specs.Word.{bits_of}
use Rattle.words.proofs.Bools.{picked}
use Rattle.jumping.specs.Jump.{address_of}

pub address-low : (z : ℤ) → address_of z < 1024
unfolding address_of
address-low z =
    let u = bits_of z in
    picked (λ n. n < 1024) (ltb u 1024) u 0 (ltb-true u 1024) (omega arith)

pub address-in : (z : ℤ) → address_of z ≤ 1024
address-in z = let l = address-low z in omega (arith, l)
