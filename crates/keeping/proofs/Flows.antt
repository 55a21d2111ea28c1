-- The commands of the program's flow keep the scalars and the call stack in range. Assumes nothing.
use Prim.Native.Nat.{ℕ, ◌-◌, ◌≤◌}
use native.Mathlib.Omega.{arith}
use mathlib.Core.Path.{◌≡◌, refl}
use mathlib.Core.Bool.{Bool, true}
use mathlib.Core.List.{List}
use borrow.Author.Tests.{leb-true, le-leb}
use lib.Dec.{eqb, leb}
use lib.IntN.{ℤ}
use lib.ListN.{get_or}
use Rattle.words.specs.declared.Word.{Word}
use Rattle.words.proofs.Bools.{picked}
use Rattle.wire.specs.declared.Command.{Command}
use Rattle.ranges.specs.Range.{address_in_range, entries_in_range}
use Rattle.ranges.proofs.Every.{every_get, every-each}
use Rattle.status.specs.declared.Status.TheVariants.{Unavailable}
use Rattle.registers.specs.Registers.{with_depth, moved, next_address}
use Rattle.registers.specs.Range.{core_in_range}
use Rattle.registers.specs.declared.Core.{Core}
use Rattle.registers.proofs.Addresses.{next_low}
use Rattle.stack.specs.Stack.{pushed, popped}
use Rattle.stack.specs.Laws as stack-laws
use Rattle.stack.proofs.Entries as stack-rules
use Rattle.jumping.specs.Jump.{address_of}
use Rattle.jumping.proofs.Addresses.{address-in}
use Rattle.waiting.specs.Waiting.{waited, Waited, Refused, Passed, TimedOut, Holding}
use Rattle.rules.specs.Flow.{Flow, flow, refused, jumped, called, returned, halted, timed_out, after_wait, waited_step, flowed, Flowed}
use Rattle.rules.proofs.FlowCases.{by-command}
use Rattle.keeping.proofs.Cores.{whole, parts, moved-in-range, next-in-range, passed-in-range}

-- ---- the call stack
all-low : (e : List ℕ) → entries_in_range e ≡ true → stack-laws.AllLow e
unfolding entries_in_range
all-low e h i = leb-true (get_or e i 0) 1024 (every_get address_in_range e i 0 h refl)

low-in-range : (e : List ℕ) → stack-laws.AllLow e → entries_in_range e ≡ true
unfolding entries_in_range
low-in-range e h = every-each address_in_range e 0 (λ i. le-leb (get_or e i 0) 1024 (h i))

-- ---- the commands
pub record Kept (f : Flow) : Type 0 where
  pub core : core_in_range f.core ≡ true
  pub entries : entries_in_range f.entries ≡ true

module _ (c : Core) (h : core_in_range c ≡ true) where
  jumped-in-range : (taken : Bool) (z : ℤ) → core_in_range (jumped taken z c).core ≡ true
  unfolding jumped
  jumped-in-range taken z =
      picked (λ (r : Flowed). core_in_range r.core ≡ true) taken _ _ (λ _. moved-in-range c h (address_of z) (address-in z)) (next-in-range c h)

  wait_in_range : (w : Waited) → core_in_range (after_wait w c).core ≡ true
  unfolding core_in_range
  wait_in_range Refused = next-in-range c h
  wait_in_range Passed = next-in-range c h
  wait_in_range TimedOut = next-in-range (timed_out c) (passed-in-range c h)
  wait_in_range (Holding w) = h

  waited-in-range : (kind : ℕ) (value : Word) (values : List ℤ) → core_in_range (waited_step kind value c values).core ≡ true
  unfolding waited_step
  waited-in-range kind value values = wait_in_range (waited kind value c.accumulator values c.wait)

  -- at another address and depth
  placed-in-range : (a d : ℕ) → a ≤ 1024 → d ≤ 8 → core_in_range (with_depth d (moved a c)) ≡ true
  placed-in-range a d l m = whole (with_depth d (moved a c)) (record { address = l; depth = m; flags = (parts c h).flags })

  halted-kept : Kept (halted c)
  unfolding halted core_in_range entries_in_range
  halted-kept = record { core = placed-in-range 0 0 (omega arith) (omega arith); entries = refl }

  module _ (e : List ℕ) (g : entries_in_range e ≡ true) where
    refused-kept : Kept (flow (refused Unavailable c) e)
    refused-kept = record { core = next-in-range c h; entries = g }

    called-kept : (z : ℤ) → Kept (called z c e)
    unfolding called
    called-kept z =
        let l : stack-laws.Laws = stack-rules.laws in
        let a = next_address c.address in
        let s = pushed e c.depth a in
        picked Kept (leb 8 c.depth) _ _ (λ _. refused-kept)
        (record {
          core = placed-in-range (address_of z) s.depth (address-in z) (l.push_depth e c.depth a (parts c h).depth);
          entries = low-in-range s.entries (l.push_low e c.depth a (all-low e g) (next_low c.address (parts c h).address));
        })

    returned-kept : Kept (returned c e)
    unfolding returned
    returned-kept =
        let l : stack-laws.Laws = stack-rules.laws in
        let s = popped e c.depth in
        let low = l.pop_low e c.depth (all-low e g) in
        picked Kept (eqb c.depth 0) _ _ (λ _. refused-kept)
        (record {
          core = placed-in-range s.back s.stack.depth low.1 (l.pop_depth e c.depth (parts c h).depth);
          entries = low-in-range s.stack.entries low.0;
        })

    pub flowed-kept : (r : Command) (values : List ℤ) → Kept (flowed r c e values)
    flowed-kept r values =
        by-command r c e values Kept
        (record {
          jc = λ b _. record { core = jumped-in-range b r.value.v; entries = g };
          ja = λ _. record { core = jumped-in-range true r.value.v; entries = g };
          csub = λ _. called-kept r.value.v;
          rsub = λ _. returned-kept;
          wait = λ _. record { core = waited-in-range r.kind r.value values; entries = g };
          stop = halted-kept;
        })
