-- Where a passed program stands: at a reached point, with return addresses that are reached. Assumes nothing.
use Prim.Native.Nat.{ℕ, ◌+◌, ◌-◌, ◌<◌, ◌≤◌}
use native.Mathlib.Omega.{arith}
use native.Mathlib.Decide.{dec_lt}
use mathlib.Core.Path.{◌≡◌, refl, ◌∙◌}
use mathlib.Core.Logic.{inl, inr}
use mathlib.Core.Bool.{Bool, true, false}
use mathlib.Core.List.{List}
use lib.Dec.{eqb}
use lib.ListN.{length, get_or, set, replicate, length-set, length-replicate}
use lib.Seq.{get_or-set_same, get_or-set_other}
use borrow.Author.Tests.{eqb-false, eq-eqb, le-leb, lt-ltb}
use Rattle.words.specs.Word.{pick}
use Rattle.words.proofs.Bools.{picked}
use Rattle.wire.specs.declared.Command.{Command}
use Rattle.store.specs.Store.{record_at}
use Rattle.registers.specs.Registers.{next_address}
use Rattle.stack.specs.Stack.{pushed, popped}
use Rattle.jumping.specs.Jump.{address_of}
use Rattle.status.specs.Status.{is_done}
use Rattle.status.specs.declared.Status.TheVariants.{Done}
use Rattle.status.proofs.Statuses.{is-done, not_done}
use Rattle.points.specs.Points.{point}
use Rattle.points.specs.Reach.{Leads, Reach, Safe}
use Rattle.points.specs.declared.Point.{Point}
use Rattle.points.specs.declared.Way.{Way}
use Rattle.points.specs.declared.Way.TheVariants.{To, Both}
use Rattle.leading.specs.Leading as leading
use Rattle.leading.specs.Leading.{status_at, onward, way_at, target}
use Rattle.leading.proofs.Ways as ways
use Rattle.leading.proofs.Ways.{Through, not-bad, call-room, return-entry, reached_in}

pub record Stands (program : List ℕ) (a d : ℕ) (e : List ℕ) : Type 0 where
  pub here : Reach (way_at program) (point a d)
  pub back : (k : ℕ) → k < d → Reach (way_at program) (point (get_or e k 0) k)
  pub size : length e ≡ 8

-- at the beginning
pub begun : (program : List ℕ) → Stands program 0 0 (replicate 8 0)
begun program = record { here = Reach.begin; back = λ k l. absurd (omega (arith, l)); size = length-replicate {A = ℕ} 8 0 }

module _ (program : List ℕ) (safe : Safe (way_at program)) where
  not-bad-here : (p : Point) → Reach (way_at program) p → status_at program p ≡ Done
  not-bad-here p r = by (is_done (status_at program p)) refl
    where
      by : (b : Bool) → is_done (status_at program p) ≡ b → status_at program p ≡ Done
      by true e = is-done (status_at program p) e
      by false e = absurd (safe.none p (status_at program p) r (ways.status_bad program p (not_done (status_at program p) e)))

  module _ (a d : ℕ) (e : List ℕ) (s : Stands program a d e) where
    abbrev p : Point
    p = point a d

    abbrev r : Command
    r = record_at program a

    pub through : Through program p
    through = not-bad program p (not-bad-here p s.here)

    leads : (q : Point) → Leads (onward r p) q → Reach (way_at program) q
    unfolding way_at
    leads q l = Reach.onward {q = q} s.here (rw (not-bad-here p s.here) l)

    pub depth_low : d ≤ 8
    depth_low = (reached_in program s.here).depth

    -- ---- to the next record
    next-led : eqb r.number 22 ≡ false → eqb r.number 28 ≡ false → eqb r.number 24 ≡ false → Leads (onward r p) (leading.next p)
    unfolding onward
    next-led f g h =
        let P : Way → Type 0 = λ w. Leads w (leading.next p) in
        let n = r.number in
        simp (f, g, h)
        (picked P (eqb n 21) (Both (target r d) (leading.next p)) (pick (eqb n 23) (Both (target r (d + 1)) (leading.next p)) (To (leading.next p)))
        (λ _. inr refl)
        (picked P (eqb n 23) (Both (target r (d + 1)) (leading.next p)) (To (leading.next p)) (λ _. inr refl) refl))

    pub goes_on : eqb r.number 22 ≡ false → eqb r.number 28 ≡ false → eqb r.number 24 ≡ false → Stands program (next_address a) d e
    goes_on f g h = record { here = leads (leading.next p) (next-led f g h); back = s.back; size = s.size }

    -- ---- to a target
    jumps-led : r.number ≡ 21 → Leads (onward r p) (target r d)
    unfolding onward
    jumps-led q = rw q (inl refl)

    jump-led : r.number ≡ 22 → Leads (onward r p) (target r d)
    unfolding onward
    jump-led q = rw q refl

    pub jumps : r.number ≡ 21 → Stands program (address_of r.value.v) d e
    jumps q = record { here = leads (target r d) (jumps-led q); back = s.back; size = s.size }

    pub jump : r.number ≡ 22 → Stands program (address_of r.value.v) d e
    jump q = record { here = leads (target r d) (jump-led q); back = s.back; size = s.size }

    -- ---- a call
    call-led : r.number ≡ 23 → Leads (onward r p) (target r (d + 1))
    unfolding onward
    call-led q = rw q (inl refl)

    return-led : r.number ≡ 23 → Leads (onward r p) (leading.next p)
    unfolding onward
    return-led q = rw q (inr refl)

    pub room : r.number ≡ 23 → d < 8
    room q = call-room r p through.depth (eq-eqb r.number 23 q)

    pub calls : r.number ≡ 23 → Stands program (address_of r.value.v) (pushed e d (next_address a)).depth (pushed e d (next_address a)).entries
    unfolding pushed
    calls q =
        let l = room q in
        let m : d < length e = omega (arith, l, s.size) in
        let w = set e d (next_address a) in
        simp (lt-ltb d 8 l)
        (record {
          here = leads (target r (d + 1)) (call-led q);
          back = λ k h. elim (dec_lt k d) [
            | yes y ↦ rw (get_or-set_other e d k (next_address a) 0 (λ z. omega (arith, y, z))) (s.back k y)
            | no z ↦ let t : k ≡ d = omega (arith, h, z) in
                rw (t, get_or-set_same e d (next_address a) 0 m) (leads (leading.next p) (return-led q))
          ];
          size = length-set e d (next_address a) ∙ s.size;
        })

    -- ---- a return
    pub entry : r.number ≡ 24 → eqb d 0 ≡ false
    entry q = return-entry r p through.depth (eq-eqb r.number 24 q)

    pub returns : r.number ≡ 24 → Stands program (popped e d).back (popped e d).stack.depth (popped e d).stack.entries
    unfolding popped
    returns q =
        let z = eqb-false d 0 (entry q) in
        let l : 0 < d = omega (arith, z) in
        simp (lt-ltb 0 d l, le-leb d 8 depth_low)
        (record {
          here = s.back (d - 1) (omega (arith, l));
          back = λ k h. rw (get_or-set_other e (d - 1) k 0 0 (λ y. omega (arith, y, h))) (s.back k (omega (arith, h)));
          size = length-set e (d - 1) 0 ∙ s.size;
        })
