-- The laws of the call stack. Assumes nothing.
use mathlib.Core.Path.{◌≡◌, refl, sym, ap, ◌∙◌}
use mathlib.Core.Bool.{◌&&◌}
use mathlib.Core.List.{List, [], ◌∷◌}
use Prim.Native.Nat.{ℕ, zero, suc, ◌+◌, ◌-◌, ◌≤◌, ◌<◌}
use native.Mathlib.Omega.{arith}
use borrow.Author.Tests.{lt-ltb, le-ltb, le-leb, ltb-true}
use lib.Dec.{ltb, leb}
use lib.ListN.{length, get_or, set, length-set}
use lib.Seq.{get_or-set_same, get_or-set_other, set-set, set-get_or}
use Rattle.words.proofs.Bools.{picked}
use Rattle.words.proofs.Lists.{all_same}
use Rattle.stack.specs.Stack.{stack, taken, emptied, pushed, popped}
use Rattle.stack.specs.Laws.{AllLow, Freed, Laws}
use Rattle.stack.specs.declared.Stack.{Stack}
use Rattle.stack.specs.declared.Popped.{Popped}

-- what holds of 0, of the entry that is stored and of every other holds of each entry after it
each : (P : ℕ → Type 0) (e : List ℕ) (k a i : ℕ) → P 0 → P a → ((i ≡ k → ⊥) → P (get_or e i 0)) → P (get_or (set e k a) i 0)
each P [] k a i z p q = z
each P (x ∷ xs) zero a zero z p q = p
each P (x ∷ xs) zero a (suc i) z p q = q (λ h. omega arith)
each P (x ∷ xs) (suc k) a zero z p q = q (λ h. omega arith)
each P (x ∷ xs) (suc k) a (suc i) z p q = each P xs k a i z p (λ n. q (λ h. n (omega arith)))

-- ---- push
module _ (e : List ℕ) (d a : ℕ) where
  -- what holds with the address on the stack, where there is room, and of the stack as it was
  by-room : (P : Stack → Type 0) → (d < 8 → P (stack (set e d a) (d + 1))) → P (stack e d) → P (pushed e d a)
  unfolding pushed
  by-room P p q = picked P (ltb d 8) (stack (set e d a) (d + 1)) (stack e d) (λ t. p (ltb-true d 8 t)) q

  room : d < 8 → pushed e d a ≡ stack (set e d a) (d + 1)
  unfolding pushed
  room h = simp (lt-ltb d 8 h)

  push_full : 8 ≤ d → pushed e d a ≡ stack e d
  unfolding pushed
  push_full h = simp (le-ltb d 8 h)

  push_pop : length e ≡ 8 → d < 8 → popped (pushed e d a).entries (pushed e d a).depth ≡ taken (set e d 0) d a
  unfolding popped
  push_pop l h =
      let m : d + 1 - 1 ≡ d = omega arith in
      simp (room h, lt-ltb 0 (d + 1) (omega arith), le-leb (d + 1) 8 (omega arith), m, set-set, get_or-set_same e d a 0 (omega arith))

  push_pop_same : length e ≡ 8 → d < 8 → get_or e d 0 ≡ 0 → popped (pushed e d a).entries (pushed e d a).depth ≡ taken e d a
  push_pop_same l h z =
      let s : set e d 0 ≡ e = ap (set e d) (sym z) ∙ set-get_or e d 0 in
      push_pop l h ∙ simp s

  push_length : length (pushed e d a).entries ≡ length e
  push_length = by-room (λ s. length s.entries ≡ length e) (λ h. length-set e d a) refl

  push_depth : d ≤ 8 → (pushed e d a).depth ≤ 8
  push_depth g = by-room (λ s. s.depth ≤ 8) (λ h. omega arith) g

  push_freed : Freed e d → Freed (pushed e d a).entries (pushed e d a).depth
  push_freed f =
      by-room (λ s. Freed s.entries s.depth)
      (λ h i g. get_or-set_other e d i a 0 (λ q. omega arith) ∙ f i (omega arith))
      f

  push_low : AllLow e → a ≤ 1024 → AllLow (pushed e d a).entries
  push_low f l =
      by-room (λ s. AllLow s.entries) (λ h i. each (λ n. n ≤ 1024) e d a i (omega arith) l (λ n. f i)) f

-- ---- pop
module _ (e : List ℕ) (d : ℕ) where
  -- what holds with an address taken off and of the stack as it was
  by-any : (P : Popped → Type 0) → P (taken (set e (d - 1) 0) (d - 1) (get_or e (d - 1) 0)) → P (taken e d 0) → P (popped e d)
  unfolding popped
  by-any P p q =
      picked P (ltb 0 d && leb d 8) (taken (set e (d - 1) 0) (d - 1) (get_or e (d - 1) 0)) (taken e d 0) (λ t. p) q

  pop_length : length (popped e d).stack.entries ≡ length e
  pop_length = by-any (λ s. length s.stack.entries ≡ length e) (length-set e (d - 1) 0) refl

  pop_depth : d ≤ 8 → (popped e d).stack.depth ≤ 8
  pop_depth g = by-any (λ s. s.stack.depth ≤ 8) (omega arith) g

  pop_freed : Freed e d → Freed (popped e d).stack.entries (popped e d).stack.depth
  pop_freed f =
      by-any (λ s. Freed s.stack.entries s.stack.depth)
      (λ i g. each (λ n. n ≡ 0) e (d - 1) 0 i refl refl (λ n. f i (omega (arith, n))))
      f

  pop_low : AllLow e → AllLow (popped e d).stack.entries × ((popped e d).back ≤ 1024)
  pop_low f =
      by-any (λ s. AllLow s.stack.entries × (s.back ≤ 1024))
      (λ i. each (λ n. n ≤ 1024) e (d - 1) 0 i (omega arith) (omega arith) (λ n. f i), f (d - 1))
      (f, omega arith)

pop_empty : (e : List ℕ) → popped e 0 ≡ taken e 0 0
unfolding popped
pop_empty e = refl

empty_freed : Freed emptied.entries emptied.depth
empty_freed i h = all_same 0 8 i

empty_low : AllLow emptied.entries
empty_low i = rw (all_same {A = ℕ} 0 8 i) (omega arith)

pub laws : Laws
laws =
    record {
      push_pop = push_pop;
      push_pop_same = push_pop_same;
      push_full = push_full;
      pop_empty = pop_empty;
      push_length = push_length;
      pop_length = pop_length;
      push_depth = push_depth;
      pop_depth = pop_depth;
      empty_freed = empty_freed;
      push_freed = push_freed;
      pop_freed = pop_freed;
      empty_low = empty_low;
      push_low = push_low;
      pop_low = pop_low;
    }
