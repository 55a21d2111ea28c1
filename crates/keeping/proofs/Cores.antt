-- The range of the scalars, taken apart and put together, and what keeps it. Assumes nothing.
use Prim.Native.Nat.{ℕ, ◌≤◌}
use mathlib.Core.Path.{◌≡◌}
use mathlib.Core.Bool.{true, ◌&&◌}
use mathlib.Core.List.{[], ◌∷◌}
use borrow.Author.Tests.{leb-true, le-leb}
use lib.Dec.{leb}
use Rattle.words.proofs.Bools.{each}
use Rattle.ranges.specs.Range.{every, address_in_range, bit_in_range, bits_in_range}
use Rattle.registers.specs.Registers.{with_flags, moved, next, next_address, stopped}
use Rattle.registers.specs.Range.{core_in_range}
use Rattle.registers.proofs.Addresses.{next_low}
use Rattle.flags.specs.Flags.{flags_in_range}
use Rattle.flags.specs.declared.Flags.{Flags}
use Rattle.registers.specs.declared.Core.{Core}
use Rattle.rules.specs.Flow.{timed_out}

pub record Parts (c : Core) : Type 0 where
  pub address : c.address ≤ 1024
  pub depth : c.depth ≤ 8
  pub flags : flags_in_range c.flags ≡ true

pub whole : (c : Core) → Parts c → core_in_range c ≡ true
unfolding core_in_range
whole c p = simp (le-leb c.address 1024 p.address, le-leb c.depth 8 p.depth, p.flags)

module _ (c : Core) (h : core_in_range c ≡ true) where
  pub parts : Parts c
  unfolding core_in_range
  parts =
      let x = each (address_in_range c.address && leb c.depth 8) (flags_in_range c.flags) h in
      let y = each (address_in_range c.address) (leb c.depth 8) x.0 in
      record { address = leb-true c.address 1024 y.0; depth = leb-true c.depth 8 y.1; flags = x.1 }

  pub moved-in-range : (a : ℕ) → a ≤ 1024 → core_in_range (moved a c) ≡ true
  moved-in-range a l = whole (moved a c) (record { address = l; depth = parts.depth; flags = parts.flags })

  pub next-in-range : core_in_range (next c) ≡ true
  next-in-range = moved-in-range (next_address c.address) (next_low c.address parts.address)

  pub stopped-in-range : core_in_range (stopped c) ≡ true
  unfolding core_in_range
  stopped-in-range = h

  pub flags-in-range : (f : Flags) → flags_in_range f ≡ true → core_in_range (with_flags f c) ≡ true
  flags-in-range f g = whole (with_flags f c) (record { address = parts.address; depth = parts.depth; flags = g })

  pub passed-in-range : core_in_range (timed_out c) ≡ true
  unfolding bits_in_range
  passed-in-range =
      let f = c.flags in
      flags-in-range (timed_out c).flags
      (each (bit_in_range f.eto) (every bit_in_range (f.eal ∷ f.edv ∷ f.epo ∷ [])) parts.flags).1
