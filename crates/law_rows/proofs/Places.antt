-- An image is known by the registers that it stands for. Assumes nothing.
use Prim.Native.Nat.{ℕ, ◌+◌, ◌-◌, ◌<◌}
use native.Mathlib.Omega.{arith}
use mathlib.Core.Path.{◌≡◌, refl, sym, ap, subst, ◌∙◌}
use mathlib.Core.Bool.{Bool, true, false}
use mathlib.Core.List.{List}
use borrow.Author.Tests.{eqb-true, eqb-false, leb-true, ltb-true, ltb-false}
use lib.Dec.{eqb, leb, ltb}
use lib.IntN.{pos}
use lib.ListN.{get_or}
use lib.Seq.{ext_get_or}
use mir.Syntax.{w32}
use mir.Facts.{to_z_inj}
use Rattle.words.specs.Word.{pick, of_bits}
use Rattle.words.proofs.Bools.{either, or_else}
use Rattle.std.specs.declared.cmp.Ordering.{Ordering}
use Rattle.std.specs.declared.cmp.Ordering.TheVariants.{Less, Equal, Greater}
use Rattle.registers.specs.declared.Order.{Order}
use Rattle.registers.specs.declared.Order.TheVariants.{Stopped, Velocity, Position}
use Rattle.board.specs.declared.Registers.{Registers}
use Rattle.reg_image.specs.Image.{registers_of, shaped, takes, bit, comparison, order, is_on, comparison_of, order_of}
use Rattle.reg_image.proofs.Places.{shaped-at}
use Rattle.reg_image.specs.Laws.{output-at, digital-at, analog-at, entry_at, axis-at, rest_at}
use Rattle.law_rows.specs.Rows.{Numbers}

-- ---- a number of its kind is known by what it stands for
bit-number : Bool → ℕ
bit-number t = pick t 1 0

comparison-number : Ordering → ℕ
comparison-number Equal = 0
comparison-number Greater = 1
comparison-number Less = 4294967295

order-number : Order → ℕ
order-number Stopped = 0
order-number Velocity = 1
order-number Position = 2

bit-back : (n : ℕ) → takes bit n ≡ true → bit-number (is_on n) ≡ n
unfolding bit-number
bit-back n h =
    either (λ (k : ℕ). k ≡ n) (eqb n 1) 1 0 (λ e. sym (eqb-true n 1 e)) (λ e. omega (arith, leb-true n 1 h, eqb-false n 1 e))

comparison-back : (n : ℕ) → takes comparison n ≡ true → comparison-number (comparison_of n) ≡ n
unfolding comparison-number
comparison-back n h =
    either (λ (k : Ordering). comparison-number k ≡ n) (eqb n 0) Equal (pick (eqb n 1) Greater Less) (λ e. sym (eqb-true n 0 e))
    (λ e. either (λ (k : Ordering). comparison-number k ≡ n) (eqb n 1) Greater Less (λ f. sym (eqb-true n 1 f))
    (λ f. or_else (leb n 1) (eqb n 4294967295) h (λ q. omega (arith, leb-true n 1 q, eqb-false n 0 e, eqb-false n 1 f))
    (λ q. sym (eqb-true n 4294967295 q))))

order-back : (n : ℕ) → takes order n ≡ true → order-number (order_of n) ≡ n
unfolding order-number
order-back n h =
    either (λ (k : Order). order-number k ≡ n) (eqb n 0) Stopped (pick (eqb n 1) Velocity Position) (λ e. sym (eqb-true n 0 e))
    (λ e. either (λ (k : Order). order-number k ≡ n) (eqb n 1) Velocity Position (λ f. sym (eqb-true n 1 f))
    (λ f. omega (arith, leb-true n 2 h, eqb-false n 0 e, eqb-false n 1 f)))

-- ---- place by place: what holds below a place, and of so many from it on
module _ (P : ℕ → Type 0) where
  further : (from n : ℕ) → ((i : ℕ) → i < from → P i) → ((j : ℕ) → j < n → P (from + j)) → (i : ℕ) → i < from + n → P i
  further from n low high i h = by (ltb i from) refl
    where
      by : (t : Bool) → ltb i from ≡ t → P i
      by true e = low i (ltb-true i from e)
      by false e =
          let q = ltb-false i from e in
          let r : from + (i - from) ≡ i = omega arith in
          subst P r (high (i - from) (omega arith))

  next : (from : ℕ) → ((i : ℕ) → i < from → P i) → P from → (i : ℕ) → i < from + 1 → P i
  next from low p = further from 1 low (λ j h. let r : from ≡ from + j = omega arith in subst P r p)

module _ (l k : List ℕ) (n : Numbers l) (o : Numbers k) (s : shaped l ≡ true) (t : shaped k ≡ true) (e : registers_of l ≡ registers_of k) where
  abbrev Same : ℕ → Type 0
  Same i = get_or l i 0 ≡ get_or k i 0

  same_word : (i : ℕ) → of_bits (get_or l i 0) ≡ of_bits (get_or k i 0) → Same i
  same_word i q = to_z_inj {w = w32} (record { fits = n.below i }) (record { fits = o.below i }) q

  same_bit : (i : ℕ) → takes bit (get_or l i 0) ≡ true → takes bit (get_or k i 0) ≡ true → is_on (get_or l i 0) ≡ is_on (get_or k i 0) → Same i
  same_bit i a b q = sym (bit-back (get_or l i 0) a) ∙ ap bit-number q ∙ bit-back (get_or k i 0) b

  scalars : (i : ℕ) → i < 16 → Same i
  unfolding registers_of
  scalars =
      next Same 15
      (next Same 14
      (next Same 13
      (next Same 12
      (next Same 11
      (next Same 10
      (next Same 9
      (next Same 8
      (next Same 7
      (next Same 6
      (next Same 5
      (next Same 4
      (next Same 3
      (next Same 2
      (next Same 1
      (next Same 0 (λ i h. absurd (omega arith))
      (same_word 0 (ap (λ (r : Registers). r.core.accumulator.v) e)))
      (same_word 1 (ap (λ (r : Registers). r.core.x.v) e)))
      (sym (comparison-back (get_or l 2 0) (shaped-at l 2 s)) ∙ ap (λ (r : Registers). comparison-number r.core.last) e ∙ comparison-back (get_or k 2 0) (shaped-at k 2 t)))
      (ap (λ (r : Registers). r.core.flags.eto) e))
      (ap (λ (r : Registers). r.core.flags.eal) e))
      (ap (λ (r : Registers). r.core.flags.edv) e))
      (ap (λ (r : Registers). r.core.flags.epo) e))
      (ap (λ (r : Registers). r.core.address) e))
      (same_bit 8 (shaped-at l 8 s) (shaped-at k 8 t) (ap (λ (r : Registers). r.core.running) e)))
      (same_bit 9 (shaped-at l 9 s) (shaped-at k 9 t) (ap (λ (r : Registers). r.core.wait.armed) e)))
      (ap (λ (r : Registers). r.core.wait.count) e))
      (same_bit 11 (shaped-at l 11 s) (shaped-at k 11 t) (ap (λ (r : Registers). r.core.wait.timed) e)))
      (same_bit 12 (shaped-at l 12 s) (shaped-at k 12 t) (ap (λ (r : Registers). r.download.on) e)))
      (ap (λ (r : Registers). r.download.address) e))
      (sym (order-back (get_or l 14 0) (shaped-at l 14 s)) ∙ ap (λ (r : Registers). order-number r.core.motion.order) e ∙ order-back (get_or k 14 0) (shaped-at k 14 t)))
      (same_word 15 (ap (λ (r : Registers). r.core.motion.velocity.v) e))

  depth : Same 25
  unfolding registers_of
  depth = ap (λ (r : Registers). r.core.depth) e

  every : (i : ℕ) → i < 137 → Same i
  every =
      further Same 94 43
      (further Same 34 60
      (further Same 26 8
      (next Same 25
      (further Same 22 3
      (further Same 20 2
      (further Same 16 4 scalars
      (λ j h. sym (output-at l n.size j h) ∙ ap (λ (r : Registers). get_or r.outputs j 0) e ∙ output-at k o.size j h))
      (λ j h. sym (digital-at l n.size j h) ∙ ap (λ (r : Registers). get_or r.digital j 0) e ∙ digital-at k o.size j h))
      (λ j h. same_word (22 + j) (sym (analog-at l n.size j h) ∙ ap (λ (r : Registers). get_or r.analog j (pos 0)) e ∙ analog-at k o.size j h)))
      depth)
      (λ j h. sym (entry_at l n.size j h) ∙ ap (λ (r : Registers). get_or r.entries j 0) e ∙ entry_at k o.size j h))
      (λ j h. same_word (34 + j) (sym (rest_at l n.size j h) ∙ ap (λ (r : Registers). get_or r.values (43 + j) (pos 0)) e ∙ rest_at k o.size j h)))
      (λ j h. same_word (94 + j) (sym (axis-at l n.size j h) ∙ ap (λ (r : Registers). get_or r.values j (pos 0)) e ∙ axis-at k o.size j h))

  pub one_image : l ≡ k
  one_image = ext_get_or 0 l k (n.size ∙ sym o.size) (λ i h. every i (omega (arith, n.size)))
