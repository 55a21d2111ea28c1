-- The address after one. Assumes nothing.
use Prim.Native.Nat.{ℕ, ◌+◌, ◌≤◌}
use native.Mathlib.Omega.{arith}
use borrow.Author.Tests.{ltb-true}
use lib.Dec.{ltb}
use Rattle.words.proofs.Bools.{picked}
use Rattle.registers.specs.Registers.{next_address}

pub next_low : (a : ℕ) → a ≤ 1024 → next_address a ≤ 1024
next_low a h = picked (λ n. n ≤ 1024) (ltb a 1024) (a + 1) a (λ e. let l = ltb-true a 1024 e in omega (arith, l)) h
