-- Where a jump, call or return that the judge lets through goes. Assumes nothing.
use Prim.Native.Nat.{◌+◌, ◌-◌, ◌<◌, ◌≤◌}
use native.Mathlib.Omega.{arith}
use mathlib.Core.Path.{◌≡◌, refl}
use mathlib.Core.Bool.{true, false, false≢true}
use lib.Dec.{leb}
use lib.IntN.{ℤ, pos, negsuc}
use lib.ListN.{get_or, set}
use borrow.Author.Tests.{leb-true, lt-leb, lt-ltb, le-leb, ne_eqb}
use Rattle.words.proofs.Bools.{each}
use Rattle.wire.specs.declared.Command.{Command}
use Rattle.stack.specs.Stack.{pushed, popped}
use Rattle.jumping.specs.Jump.{is_address, address_of}
use Rattle.status.specs.Status.{is_done}
use Rattle.status.proofs.Statuses.{all_right}
use Rattle.judge.specs.Judge.{judged, is_flow}
use Rattle.rules.specs.Flow.{jumped, called, returned, flowed}
use Rattle.rules.specs.Step.{State, Pins, carried}
use Rattle.safety.specs.Safety.{At, taken, Goes}

-- the address that a value of 0 to 1,023 is, is the value
whole : (z : ℤ) → is_address z ≡ true → pos (address_of z) ≡ z
unfolding address_of
whole (pos n) h =
    let l = leb-true n 1023 (each (leb 0 n) (leb n 1023) h).1 in
    simp (lt-ltb n 1024 (omega (arith, l))) refl
whole (negsuc n) h = absurd (false≢true h)

module _ (r : Command) (d : is_done (judged r) ≡ true) where
  jc-target : r.number ≡ 21 → is_address r.value.v ≡ true
  unfolding judged
  jc-target q = (all_right true true (leb r.kind 11) (is_address r.value.v) true (rw q at d)).3

  ja-target : r.number ≡ 22 → is_address r.value.v ≡ true
  unfolding judged
  ja-target q = (all_right true true true (is_address r.value.v) true (rw q at d)).3

  call-target : r.number ≡ 23 → is_address r.value.v ≡ true
  unfolding judged
  call-target q = (all_right true true true (is_address r.value.v) true (rw q at d)).3

  module _ (p : Pins) (x : State) where
    ja : r.number ≡ 22 → At (carried r p x).state r.value.v x.entries x.core.depth
    unfolding carried is_flow flowed jumped
    ja q = rw q (record { address = whole r.value.v (ja-target q); entries = refl; depth = refl })

    jc : r.number ≡ 21 → taken r x ≡ true → At (carried r p x).state r.value.v x.entries x.core.depth
    unfolding carried is_flow flowed jumped
    jc q t = rw (q, t) (record { address = whole r.value.v (jc-target q); entries = refl; depth = refl })

    module _ (l : x.core.address < 1024) where
      jc_not : r.number ≡ 21 → taken r x ≡ false → At (carried r p x).state (pos (x.core.address + 1)) x.entries x.core.depth
      unfolding carried is_flow flowed jumped
      jc_not q t = rw (q, t, lt-ltb x.core.address 1024 l) (record { address = refl; entries = refl; depth = refl })

      csub : r.number ≡ 23 → x.core.depth < 8
          → At (carried r p x).state r.value.v (set x.entries x.core.depth (x.core.address + 1)) (x.core.depth + 1)
      unfolding carried is_flow flowed called pushed
      csub q m =
          rw (q, lt-leb 8 x.core.depth m, lt-ltb x.core.depth 8 m, lt-ltb x.core.address 1024 l)
          (record { address = whole r.value.v (call-target q); entries = refl; depth = refl })

    rsub : r.number ≡ 24 → 0 < x.core.depth → x.core.depth ≤ 8
        → At (carried r p x).state (pos (get_or x.entries (x.core.depth - 1) 0)) (set x.entries (x.core.depth - 1) 0)
        (x.core.depth - 1)
    unfolding carried is_flow flowed returned popped
    rsub q m n =
        rw (q, ne_eqb x.core.depth 0 (λ e. omega (arith, m, e)), lt-ltb 0 x.core.depth m, le-leb x.core.depth 8 n)
        (record { address = refl; entries = refl; depth = refl })

    pub carried-goes : x.core.address < 1024 → x.core.depth ≤ 8 → (r.number ≡ 23 → x.core.depth < 8)
        → (r.number ≡ 24 → 0 < x.core.depth) → Goes r x (carried r p x).state
    carried-goes l n room entry =
        record {
          ja = ja;
          jc = jc;
          jc_not = jc_not l;
          csub = λ q. csub l q (room q);
          room = room;
          rsub = λ q. rsub q (entry q) n;
          entry = entry;
        }
