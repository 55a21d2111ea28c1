-- The laws of each register that stands at one place, and of each row of registers. Assumes nothing.
use Prim.Native.Nat.{ℕ, ◌+◌, ◌-◌, ◌≤◌, ◌<◌}
use native.Mathlib.Omega.{arith}
use mathlib.Core.Path.{◌≡◌, refl, sym, ap, ◌∙◌}
use mathlib.Core.Logic.{◌≢◌}
use mathlib.Core.Bool.{Bool, true, false, ◌||◌}
use mathlib.Core.List.{List, ◌++◌}
use Rattle.std.proofs.Common.{◌⊎◌, inl, inr}
use borrow.Author.Tests.{lt-ltb, le-ltb, le-leb, ltb-true, ltb-false, eqb-true}
use lib.Dec.{ltb, leb, eqb}
use lib.IntN.{pos}
use lib.ListN.{length, get_or, set, get_or-append}
use lib.Seq.{get_or-append-add, set-append_left, get_or-set_other}
use Rattle.std.specs.Prelude.{Some, None}
use Rattle.words.specs.Word.{word, of_bits, pick}
use Rattle.words.proofs.Bools.{or_else}
use Rattle.registers.specs.Registers.{with_last, with_running, with_depth}
use Rattle.values.specs.Values.{value_at}
use Rattle.board.specs.declared.Registers.{Registers}
use Rattle.reg_image.specs.With as with
use Rattle.reg_image.specs.With.{in_core}
use Rattle.reg_image.specs.Rows as rows
use Rattle.reg_image.specs.Row.{RowLaws, place_in, value_place}
use Rattle.reg_image.specs.Register.{RegisterLaws}
use Rattle.reg_image.specs.Image.{number, bit, comparison, order, kinds, comparison_of, order_of, is_on, words, registers_of}
use Rattle.reg_image.specs.Numbers.{read, part_out, part_at, part-read, words-out, words-at, words-read, words-length, set-behind, behind}

written : (l : List ℕ) → length l ≡ 137 → (p j v : ℕ) → ltb p 137 ≡ true → get_or (set l p v) j 0 ≡ pick (eqb p j) v (get_or l j 0)
written l n p j v h = read l p j v (ap (ltb p) n ∙ h)

pub accumulator_laws : RegisterLaws 0 number (λ n. word (of_bits n)) (λ r. r.core.accumulator) (λ w. in_core (with.with_accumulator w))
unfolding registers_of
accumulator_laws =
    record {
      inside = omega arith;
      kept = refl;
      reads = λ l. refl;
      writes = λ l v n. simp (written l n 0, part_out l 0, words-out l 0);
    }

pub x_laws : RegisterLaws 1 number (λ n. word (of_bits n)) (λ r. r.core.x) (λ w. in_core (with.with_x w))
unfolding registers_of
x_laws =
    record {
      inside = omega arith;
      kept = refl;
      reads = λ l. refl;
      writes = λ l v n. simp (written l n 1, part_out l 1, words-out l 1);
    }

pub last_laws : RegisterLaws 2 comparison comparison_of (λ r. r.core.last) (λ w. in_core (with_last w))
unfolding registers_of
last_laws =
    record {
      inside = omega arith;
      kept = refl;
      reads = λ l. refl;
      writes = λ l v n. simp (written l n 2, part_out l 2, words-out l 2);
    }

pub eto_laws : RegisterLaws 3 number (λ n. n) (λ r. r.core.flags.eto) (λ w. in_core (with.with_eto w))
unfolding registers_of
eto_laws =
    record {
      inside = omega arith;
      kept = refl;
      reads = λ l. refl;
      writes = λ l v n. simp (written l n 3, part_out l 3, words-out l 3);
    }

pub eal_laws : RegisterLaws 4 number (λ n. n) (λ r. r.core.flags.eal) (λ w. in_core (with.with_eal w))
unfolding registers_of
eal_laws =
    record {
      inside = omega arith;
      kept = refl;
      reads = λ l. refl;
      writes = λ l v n. simp (written l n 4, part_out l 4, words-out l 4);
    }

pub edv_laws : RegisterLaws 5 number (λ n. n) (λ r. r.core.flags.edv) (λ w. in_core (with.with_edv w))
unfolding registers_of
edv_laws =
    record {
      inside = omega arith;
      kept = refl;
      reads = λ l. refl;
      writes = λ l v n. simp (written l n 5, part_out l 5, words-out l 5);
    }

pub epo_laws : RegisterLaws 6 number (λ n. n) (λ r. r.core.flags.epo) (λ w. in_core (with.with_epo w))
unfolding registers_of
epo_laws =
    record {
      inside = omega arith;
      kept = refl;
      reads = λ l. refl;
      writes = λ l v n. simp (written l n 6, part_out l 6, words-out l 6);
    }

pub address_laws : RegisterLaws 7 number (λ n. n) (λ r. r.core.address) (λ w. in_core (with.with_address w))
unfolding registers_of
address_laws =
    record {
      inside = omega arith;
      kept = refl;
      reads = λ l. refl;
      writes = λ l v n. simp (written l n 7, part_out l 7, words-out l 7);
    }

pub running_laws : RegisterLaws 8 bit is_on (λ r. r.core.running) (λ w. in_core (with_running w))
unfolding registers_of
running_laws =
    record {
      inside = omega arith;
      kept = refl;
      reads = λ l. refl;
      writes = λ l v n. simp (written l n 8, part_out l 8, words-out l 8);
    }

pub armed_laws : RegisterLaws 9 bit is_on (λ r. r.core.wait.armed) (λ w. in_core (with.with_armed w))
unfolding registers_of
armed_laws =
    record {
      inside = omega arith;
      kept = refl;
      reads = λ l. refl;
      writes = λ l v n. simp (written l n 9, part_out l 9, words-out l 9);
    }

pub wait_count_laws : RegisterLaws 10 number (λ n. n) (λ r. r.core.wait.count) (λ w. in_core (with.with_count w))
unfolding registers_of
wait_count_laws =
    record {
      inside = omega arith;
      kept = refl;
      reads = λ l. refl;
      writes = λ l v n. simp (written l n 10, part_out l 10, words-out l 10);
    }

pub timed_laws : RegisterLaws 11 bit is_on (λ r. r.core.wait.timed) (λ w. in_core (with.with_timed w))
unfolding registers_of
timed_laws =
    record {
      inside = omega arith;
      kept = refl;
      reads = λ l. refl;
      writes = λ l v n. simp (written l n 11, part_out l 11, words-out l 11);
    }

pub downloading_laws : RegisterLaws 12 bit is_on (λ r. r.download.on) (λ w. with.downloading w)
unfolding registers_of
downloading_laws =
    record {
      inside = omega arith;
      kept = refl;
      reads = λ l. refl;
      writes = λ l v n. simp (written l n 12, part_out l 12, words-out l 12);
    }

pub write_address_laws : RegisterLaws 13 number (λ n. n) (λ r. r.download.address) (λ w. with.writing_at w)
unfolding registers_of
write_address_laws =
    record {
      inside = omega arith;
      kept = refl;
      reads = λ l. refl;
      writes = λ l v n. simp (written l n 13, part_out l 13, words-out l 13);
    }

pub motion_order_laws : RegisterLaws 14 order order_of (λ r. r.core.motion.order) (λ w. in_core (with.with_order w))
unfolding registers_of
motion_order_laws =
    record {
      inside = omega arith;
      kept = refl;
      reads = λ l. refl;
      writes = λ l v n. simp (written l n 14, part_out l 14, words-out l 14);
    }

pub velocity_laws : RegisterLaws 15 number (λ n. word (of_bits n)) (λ r. r.core.motion.velocity) (λ w. in_core (with.with_velocity w))
unfolding registers_of
velocity_laws =
    record {
      inside = omega arith;
      kept = refl;
      reads = λ l. refl;
      writes = λ l v n. simp (written l n 15, part_out l 15, words-out l 15);
    }

pub depth_laws : RegisterLaws 25 number (λ n. n) (λ r. r.core.depth) (λ w. in_core (with_depth w))
unfolding registers_of
depth_laws =
    record {
      inside = omega arith;
      kept = refl;
      reads = λ l. refl;
      writes = λ l v n. simp (written l n 25, part_out l 25, words-out l 25);
    }

-- ---- rows
low : (p from to : ℕ) → p < from → ltb p from || leb to p ≡ true
low p from to h = simp (lt-ltb p from h)

high : (p from to : ℕ) → to ≤ p → ltb p from || leb to p ≡ true
high p from to h = by (ltb p from)
  where
    by : (t : Bool) → t || leb to p ≡ true
    by true = refl
    by false = le-leb to p h

module _ (l : List ℕ) (n : length l ≡ 137) where
  here : (p j v : ℕ) → ltb p 137 ≡ true → get_or (set l p v) j 0 ≡ pick (eqb p j) v (get_or l j 0)
  here p j v h = read l p j v (ap (ltb p) n ∙ h)

  -- ---- places in a row, behind the scalars
  past : (p : ℕ) → 15 < p → p ≢ 25 → (j v : ℕ) → ltb j 16 || eqb j 25 ≡ true → get_or (set l p v) j 0 ≡ get_or l j 0
  past p h k j v e =
      get_or-set_other l p j v 0
      (λ q. or_else (ltb j 16) (eqb j 25) e (λ t. omega (arith, ltb-true j 16 t)) (λ t. k (sym q ∙ eqb-true j 25 t)))

  pub output-set : (i v : ℕ) → i < 4 → registers_of (set l (16 + i) v) ≡ with.with_outputs (set (registers_of l).outputs i v) (registers_of l)
  unfolding registers_of
  output-set i v h =
      let p = 16 + i in
      let a : 15 < p = omega arith in
      let b : p ≢ 25 = omega arith in
      simp (
        past p a b,
        part_at l i v 16 4 h,
        part_out l p v 20 2 (low p 20 22 (omega arith)),
        part_out l p v 26 8 (low p 26 34 (omega arith)),
        words-out l p v 22 3 (low p 22 25 (omega arith)),
        words-out l p v 94 43 (low p 94 137 (omega arith)),
        words-out l p v 34 60 (low p 34 94 (omega arith)),
      )

  pub digital-set : (i v : ℕ) → i < 2 → registers_of (set l (20 + i) v) ≡ with.with_digital (set (registers_of l).digital i v) (registers_of l)
  unfolding registers_of
  digital-set i v h =
      let p = 20 + i in
      let a : 15 < p = omega arith in
      let b : p ≢ 25 = omega arith in
      simp (
        past p a b,
        part_at l i v 20 2 h,
        part_out l p v 16 4 (high p 16 20 (omega arith)),
        part_out l p v 26 8 (low p 26 34 (omega arith)),
        words-out l p v 22 3 (low p 22 25 (omega arith)),
        words-out l p v 94 43 (low p 94 137 (omega arith)),
        words-out l p v 34 60 (low p 34 94 (omega arith)),
      )

  pub analog-set : (i v : ℕ) → i < 3 → registers_of (set l (22 + i) v) ≡ with.with_analog (set (registers_of l).analog i (of_bits v)) (registers_of l)
  unfolding registers_of
  analog-set i v h =
      let p = 22 + i in
      let a : 15 < p = omega arith in
      let b : p ≢ 25 = omega arith in
      simp (
        past p a b,
        words-at l i v 22 3 h,
        part_out l p v 16 4 (high p 16 20 (omega arith)),
        part_out l p v 20 2 (high p 20 22 (omega arith)),
        part_out l p v 26 8 (low p 26 34 (omega arith)),
        words-out l p v 94 43 (low p 94 137 (omega arith)),
        words-out l p v 34 60 (low p 34 94 (omega arith)),
      )

  pub entry_set : (i v : ℕ) → i < 8 → registers_of (set l (26 + i) v) ≡ with.with_entries (set (registers_of l).entries i v) (registers_of l)
  unfolding registers_of
  entry_set i v h =
      let p = 26 + i in
      let a : 15 < p = omega arith in
      let b : p ≢ 25 = omega arith in
      simp (
        past p a b,
        part_at l i v 26 8 h,
        part_out l p v 16 4 (high p 16 20 (omega arith)),
        part_out l p v 20 2 (high p 20 22 (omega arith)),
        words-out l p v 22 3 (high p 22 25 (omega arith)),
        words-out l p v 94 43 (low p 94 137 (omega arith)),
        words-out l p v 34 60 (low p 34 94 (omega arith)),
      )

  axis-length : length (words l 94 43) ≡ 43
  axis-length = words-length l 94 43 (omega (arith, n))

  pub axis-set : (i v : ℕ) → i < 43 → registers_of (set l (94 + i) v) ≡ with.with_values (set (registers_of l).values i (of_bits v)) (registers_of l)
  unfolding registers_of
  axis-set i v h =
      let p = 94 + i in
      let a : 15 < p = omega arith in
      let b : p ≢ 25 = omega arith in
      simp (
        past p a b,
        part_out l p v 16 4 (high p 16 20 (omega arith)),
        part_out l p v 20 2 (high p 20 22 (omega arith)),
        part_out l p v 26 8 (high p 26 34 (omega arith)),
        words-out l p v 22 3 (high p 22 25 (omega arith)),
        words-at l i v 94 43 h,
        words-out l p v 34 60 (high p 34 94 (omega arith)),
        set-append_left (words l 94 43) (words l 34 60) i (of_bits v) (omega (arith, axis-length)),
      )

  pub rest-set : (i v : ℕ) → i < 60 → registers_of (set l (34 + i) v) ≡ with.with_values (set (registers_of l).values (43 + i) (of_bits v)) (registers_of l)
  unfolding registers_of
  rest-set i v h =
      let p = 34 + i in
      let a : 15 < p = omega arith in
      let b : p ≢ 25 = omega arith in
      let e : set (words l 94 43 ++ words l 34 60) (43 + i) (of_bits v) ≡ words l 94 43 ++ set (words l 34 60) i (of_bits v) = rw axis-length at (set-behind (words l 94 43) (words l 34 60) i (of_bits v)) in
      simp (
        past p a b,
        part_out l p v 16 4 (high p 16 20 (omega arith)),
        part_out l p v 20 2 (high p 20 22 (omega arith)),
        part_out l p v 26 8 (high p 26 34 (omega arith)),
        words-out l p v 22 3 (high p 22 25 (omega arith)),
        words-out l p v 94 43 (low p 94 137 (omega arith)),
        words-at l i v 34 60 h,
        e,
      )

  -- ---- what is read in a row
  pub output-at : (i : ℕ) → i < 4 → get_or (registers_of l).outputs i 0 ≡ get_or l (16 + i) 0
  unfolding registers_of
  output-at i h = part-read l i 16 4 h

  pub digital-at : (i : ℕ) → i < 2 → get_or (registers_of l).digital i 0 ≡ get_or l (20 + i) 0
  unfolding registers_of
  digital-at i h = part-read l i 20 2 h

  pub analog-at : (i : ℕ) → i < 3 → get_or (registers_of l).analog i (pos 0) ≡ of_bits (get_or l (22 + i) 0)
  unfolding registers_of
  analog-at i h = words-read l i 22 3 h

  pub entry_at : (i : ℕ) → i < 8 → get_or (registers_of l).entries i 0 ≡ get_or l (26 + i) 0
  unfolding registers_of
  entry_at i h = part-read l i 26 8 h

  pub axis-at : (i : ℕ) → i < 43 → get_or (registers_of l).values i (pos 0) ≡ of_bits (get_or l (94 + i) 0)
  unfolding registers_of
  axis-at i h =
      get_or-append (words l 94 43) (words l 34 60) (pos 0) i (omega (arith, axis-length)) ∙ words-read l i 94 43 h

  pub rest_at : (i : ℕ) → i < 60 → get_or (registers_of l).values (43 + i) (pos 0) ≡ of_bits (get_or l (34 + i) 0)
  unfolding registers_of
  rest_at i h =
      (rw axis-length at (get_or-append-add (words l 94 43) (words l 34 60) i (pos 0))) ∙ words-read l i 34 60 h

  -- the same by the place on the sheet
  module _ (i : ℕ) (h : 43 ≤ i) (k : i < 103) where
    back : 43 + (i - 43) ≡ i
    back = omega arith

    pub rest-value : get_or (registers_of l).values i (pos 0) ≡ of_bits (get_or l (34 + (i - 43)) 0)
    rest-value = rw back at (rest_at (i - 43) (omega arith))

  pub rest-value-set : (i v : ℕ) → 43 ≤ i → i < 103
      → registers_of (set l (34 + (i - 43)) v) ≡ with.with_values (set (registers_of l).values i (of_bits v)) (registers_of l)
  rest-value-set i v h k =
      let e : 43 + (i - 43) ≡ i = omega arith in
      rw e at (rest-set (i - 43) v (omega arith))

-- ---- the laws of a row
in_row : (first size i p : ℕ) → place_in first size i ≡ Some p → (i < size) × (p ≡ first + i)
in_row first size i p e = by (ltb i size) refl e
  where
    by : (t : Bool) → ltb i size ≡ t → pick t (Some (first + i)) None ≡ Some p → (i < size) × (p ≡ first + i)
    by true h q = (ltb-true i size h, cc)
    by false h q = absurd cc

past_row : (first size i : ℕ) → place_in first size i ≡ None → size ≤ i
past_row first size i e = by (ltb i size) refl e
  where
    by : (t : Bool) → ltb i size ≡ t → pick t (Some (first + i)) None ≡ None → size ≤ i
    by true h q = absurd cc
    by false h q = ltb-false i size h

row_laws : {V : Type 0} (first size : ℕ) (of : ℕ → V) (read : ℕ → Registers → V) (with : ℕ → V → Registers → Registers)
    → 15 ≤ first
    → first + size ≤ 137
    → ((i : ℕ) (l : List ℕ) → i < size → length l ≡ 137 → read i (registers_of l) ≡ of (get_or l (first + i) 0))
    → ((i n : ℕ) (l : List ℕ) → i < size → length l ≡ 137 → registers_of (set l (first + i) n) ≡ with i (of n) (registers_of l))
    → ((i : ℕ) (r : Registers) → size ≤ i → read i r ≡ of 0)
    → ((i : ℕ) (v : V) (r : Registers) → size ≤ i → with i v r ≡ r)
    → RowLaws (place_in first size) number of read with
row_laws first size of read with a b reads writes past_read past_written =
    record {
      inside = λ i p e. let s = in_row first size i p e in omega (arith, s.0, s.1);
      kept = λ i p e. let s = in_row first size i p e in behind kinds p (omega (arith, s.0, s.1));
      reads = λ i p l e n. let s = in_row first size i p e in rw s.1 (reads i l s.0 n);
      writes = λ i p l v e n. let s = in_row first size i p e in rw s.1 (writes i v l s.0 n);
      past_read = λ i r e. past_read i r (past_row first size i e);
      past_written = λ i v r e. past_written i v r (past_row first size i e);
    }

pub output_laws : RowLaws (place_in 16 4) number (λ n. n) (λ i r. pick (ltb i 4) (get_or r.outputs i 0) 0) (λ i n. rows.set_output i n)
output_laws =
    row_laws 16 4 _ _ _ (omega arith) (omega arith)
    (λ i l h n. simp (lt-ltb i 4 h) (output-at l n i h))
    (λ i v l h n. simp (lt-ltb i 4 h) (output-set l n i v h))
    (λ i r h. simp (le-ltb i 4 h))
    (λ i v r h. simp (le-ltb i 4 h))

pub digital_laws : RowLaws (place_in 20 2) number (λ n. n) (λ i r. pick (ltb i 2) (get_or r.digital i 0) 0) (λ i n. rows.set_digital i n)
digital_laws =
    row_laws 20 2 _ _ _ (omega arith) (omega arith)
    (λ i l h n. simp (lt-ltb i 2 h) (digital-at l n i h))
    (λ i v l h n. simp (lt-ltb i 2 h) (digital-set l n i v h))
    (λ i r h. simp (le-ltb i 2 h))
    (λ i v r h. simp (le-ltb i 2 h))

pub analog_laws : RowLaws (place_in 22 3) number (λ n. word (of_bits n)) (λ i r. pick (ltb i 3) (word (get_or r.analog i (pos 0))) (word (pos 0))) (λ i w. rows.set_analog i w.v)
analog_laws =
    row_laws 22 3 _ _ _ (omega arith) (omega arith)
    (λ i l h n. simp (lt-ltb i 3 h) (ap word (analog-at l n i h)))
    (λ i v l h n. simp (lt-ltb i 3 h) (analog-set l n i v h))
    (λ i r h. simp (le-ltb i 3 h))
    (λ i v r h. simp (le-ltb i 3 h))

pub entry_laws : RowLaws (place_in 26 8) number (λ n. n) (λ i r. pick (ltb i 8) (get_or r.entries i 0) 0) (λ i n. rows.set_entry i n)
entry_laws =
    row_laws 26 8 _ _ _ (omega arith) (omega arith)
    (λ i l h n. simp (lt-ltb i 8 h) (entry_at l n i h))
    (λ i v l h n. simp (lt-ltb i 8 h) (entry_set l n i v h))
    (λ i r h. simp (le-ltb i 8 h))
    (λ i v r h. simp (le-ltb i 8 h))

-- ---- the working values: two rows, the second behind the first
pub record IsValuePlace (i p : ℕ) : Type 0 where
  pub known : i < 103
  pub stands : ((i < 43) × (p ≡ 94 + i)) ⊎ ((43 ≤ i) × (p ≡ 34 + (i - 43)))

value_at-place : (i p : ℕ) → value_place i ≡ Some p → IsValuePlace i p
value_at-place i p e = by (ltb i 43) (ltb i 103) refl refl e
  where
    by : (t u : Bool) → ltb i 43 ≡ t → ltb i 103 ≡ u → pick t (Some (94 + i)) (pick u (Some (34 + (i - 43))) None) ≡ Some p → IsValuePlace i p
    by true u h k q = let g = ltb-true i 43 h in record { known = omega arith; stands = inl (g, cc) }
    by false true h k q = record { known = ltb-true i 103 k; stands = inr (ltb-false i 43 h, cc) }
    by false false h k q = absurd cc

past_values : (i : ℕ) → value_place i ≡ None → 103 ≤ i
past_values i e = by (ltb i 43) (ltb i 103) refl e
  where
    by : (t u : Bool) → ltb i 103 ≡ u → pick t (Some (94 + i)) (pick u (Some (34 + (i - 43))) None) ≡ None → 103 ≤ i
    by true u k q = absurd cc
    by false true k q = absurd cc
    by false false k q = ltb-false i 103 k

pub value_laws : RowLaws value_place number (λ n. word (of_bits n)) (λ i r. value_at r.values i) (λ i w. rows.set_value_at i w.v)
value_laws =
    record {
      inside = λ i p e. let s = value_at-place i p e in let h = s.known in elim s.stands [ inl t ↦ omega (arith, t.0, t.1) | inr t ↦ omega (arith, t.0, t.1) ];
      kept = λ i p e. let s = value_at-place i p e in
          behind kinds p (elim s.stands [ inl t ↦ omega (arith, t.0, t.1) | inr t ↦ omega (arith, t.0, t.1) ]);
      reads = λ i p l e n. let s = value_at-place i p e in
          simp (lt-ltb i 103 s.known) (elim s.stands [ inl t ↦ rw t.1 (ap word (axis-at l n i t.0)) | inr t ↦ rw t.1 (ap word (rest-value l n i t.0 s.known)) ]);
      writes = λ i p l v e n. let s = value_at-place i p e in
          simp (lt-ltb i 103 s.known) (elim s.stands [ inl t ↦ rw t.1 (axis-set l n i v t.0) | inr t ↦ rw t.1 (rest-value-set l n i v t.0 s.known) ]);
      past_read = λ i r e. simp (le-ltb i 103 (past_values i e));
      past_written = λ i v r e. simp (le-ltb i 103 (past_values i e));
    }
