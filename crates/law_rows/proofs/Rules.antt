-- The laws of the events of the C door. Assumes nothing.
use Rattle.std.specs.Prelude.{Result, Ok, Err}
use Prim.Native.Nat.{ℕ}
use native.Mathlib.Omega.{arith}
use mathlib.Core.Path.{◌≡◌, refl, sym, ap, subst, ◌∙◌}
use mathlib.Core.Bool.{Bool, true, false, true≢false, ◌&&◌}
use mathlib.Core.List.{List}
use borrow.Author.Tests.{eqb-true}
use lib.Dec.{eqb, leb}
use lib.IntN.{ℤ}
use lib.ListN.{length, length-append}
use Rattle.words.specs.Word.{pick}
use Rattle.words.specs.Laws.{AllBytes}
use Rattle.words.proofs.Bools.{each, either}
use Rattle.status.specs.Status.{number_of}
use Rattle.status.specs.declared.Status.{Status}
use Rattle.status.specs.declared.Status.TheVariants.{Checksum}
use Rattle.status.proofs.Statuses.{by-status}
use Rattle.serial.specs.Serial.{taken_of}
use Rattle.wire.specs.declared.Command.{Command}
use Rattle.serial.specs.declared.NotTaken.{NotTaken}
use Rattle.serial.specs.declared.NotTaken.TheVariants.{NotOurs, Damaged}
use Rattle.sampling.specs.Sample.{sample_in_range}
use Rattle.board.specs.Range.{registers_in_range}
use Rattle.board.specs.declared.Registers.{Registers}
use Rattle.rules.specs.Steps.{steps}
use Rattle.rules.specs.Obey.{obeyed}
use Rattle.rules.specs.Events.{with_tick, with_sample}
use Rattle.rules.specs.Events as events
use Rattle.replying.specs.Reply.{byte_of}
use Rattle.rules.specs.Datagram.{Board, After, board, unchanged, received, obeyed_by, lent}
use Rattle.rules.specs.Datagram as datagrams
use Rattle.rules.specs.RunEvent as runs
use Rattle.promises.specs.Laws as event-laws
use Rattle.promises.specs.Commands.{InRange}
use Rattle.promises.specs.Commands as command-laws
use Rattle.promises.proofs.Rules as promises
use Rattle.promises.proofs.Refusals as refusals
use Rattle.reg_image.specs.Image.{registers_of, shaped, words}
use Rattle.reg_image.specs.Numbers.{words-length}
use Rattle.reg_range.specs.Range.{stands}
use Rattle.board_events.specs.Standing.{Told, Is, Leaving}
use Rattle.board_events.specs.Events.{tick_status, sample_of, sample_status}
use Rattle.board_datagrams.specs.Datagram.{Answers, answered}
use Rattle.board_runs.specs.Run.{Runs, ran, Ran}
use Rattle.law_rows.specs.Rows.{Samples, Ticks, Happens, power-up, sample, tick, datagram, run, Row, none, also, SincePowerUp, since, Numbers}
use Rattle.law_rows.specs.Laws.{Laws}
use Rattle.law_rows.proofs.Places.{one_image}
use Rattle.checking.specs.Check.{answer_of}
use Rattle.checking.specs.Laws as check-laws
use Rattle.checking.proofs.Unique as checking
use Rattle.numbered.specs.Check.{numbers_of, Checks}
use Rattle.numbered.specs.declared.Checked.{Checked}

the-events : event-laws.Laws
the-events = promises.laws

the-commands : command-laws.Commands
the-commands = refusals.commands

-- ---- what stands, by its two parts
of_parts : (l : List ℕ) → shaped l ≡ true → registers_in_range (registers_of l) ≡ true → stands l ≡ true
unfolding stands
of_parts l e f = rw (e, f)

pub parts : (l : List ℕ) → stands l ≡ true → (shaped l ≡ true) × (registers_in_range (registers_of l) ≡ true)
unfolding stands
parts l h = each (shaped l) (registers_in_range (registers_of l)) h

pub in-range : (l : List ℕ) → length l ≡ 137 → stands l ≡ true → InRange (registers_of l)
unfolding registers_of
in-range l n h = record {
  all = (parts l h).1;
  size = length-append (words l 94 43) (words l 34 60) ∙ (simp (words-length l 94 43 (omega arith), words-length l 34 60 (omega arith)));
}

-- ---- power-up, sample and tick
module _ (status : ℕ) (r : Registers) (l k : List ℕ) (n : ℕ) (t : Told status r l k n) where
  pub told-refused : (n ≡ 100 → ⊥) → k ≡ l
  told-refused other = by (eqb status 100) refl t.leaves
    where
      by : (b : Bool) → eqb status 100 ≡ b → Leaving b r l k → k ≡ l
      by true e x = absurd (other (t.answers ∙ eqb-true status 100 e))
      by false e x = x

  pub told-done : status ≡ 100 → registers_in_range r ≡ true → stands k ≡ true
  told-done e f =
      let x : Is k r = subst (λ (s : ℕ). Leaving (eqb s 100) r l k) e t.leaves in
      of_parts k x.shape (ap registers_in_range x.of ∙ f)

  told-on : stands l ≡ true → (status ≡ 100 → registers_in_range r ≡ true) → stands k ≡ true
  told-on h f = by (eqb status 100) refl t.leaves
    where
      by : (b : Bool) → eqb status 100 ≡ b → Leaving b r l k → stands k ≡ true
      by true e x = told-done (eqb-true status 100 e) (f (eqb-true status 100 e))
      by false e x = ap stands x ∙ h

tick-range : (r : Registers) → registers_in_range r ≡ true → registers_in_range (with_tick r) ≡ true
unfolding events.ticked
tick-range r h = rw h at (the-events.tick_in_range r h)

sample-range : (fields : List ℤ) (l : List ℕ) → length l ≡ 137 → stands l ≡ true → sample_status fields l ≡ 100
    → registers_in_range (with_sample (sample_of fields) (registers_of l)) ≡ true
unfolding events.sampled sample_status
sample-range fields l n h e = by (sample_in_range (sample_of fields)) refl
  where
    by : (b : Bool) → sample_in_range (sample_of fields) ≡ b → registers_in_range (with_sample (sample_of fields) (registers_of l)) ≡ true
    by true f = rw ((parts l h).1, f) at (the-events.sample-in-range (sample_of fields) (registers_of l) (in-range l n h).size (parts l h).1)
    by false f = let q : ◌≡◌ {A = ℕ} 21 100 = rw (h, f) at e in absurd (omega arith)

-- ---- datagrams and runs, from an image that stands
module _ (l : List ℕ) (h : stands l ≡ true) where
  pub same-datagram : (bytes p m b : List ℕ) → answered bytes l p m b ≡ datagrams.datagram bytes (board (registers_of l) p m b)
  unfolding answered datagrams.datagram
  same-datagram bytes p m b = rw (h, (parts l h).1)

  pub same-run : (program : List ℕ) (budget : ℕ) (m : List ℕ) → ran program budget l m ≡ runs.run program budget (registers_of l) m
  unfolding ran runs.run
  same-run program budget m = rw (h, (parts l h).1)

  module _ (n : length l ≡ 137) where
    datagram-on : (bytes p m b : List ℕ) (s : ℕ) (k p' m' b' : List ℕ) → AllBytes bytes → AllBytes p → Answers bytes l p m b s k p' m' b' → stands k ≡ true
    datagram-on bytes p m b s k p' m' b' u v a =
        of_parts k (a.stays (parts l h).0)
        (ap registers_in_range (a.makes ∙ ap (λ (y : After). y.board.registers) (same-datagram bytes p m b))
        ∙ (the-commands.datagram_in_range bytes (board (registers_of l) p m b) u v (in-range l n h)).all)

    run_on : (program : List ℕ) (budget : ℕ) (m : List ℕ) (r : Ran) (k m' : List ℕ) → AllBytes program → Runs program budget l m r k m' → stands k ≡ true
    run_on program budget m r k m' v a =
        of_parts k (a.stays (parts l h).0)
        (ap registers_in_range (a.makes ∙ ap (λ (y : runs.Answer). y.registers) (same-run program budget m))
        ∙ (the-commands.run_in_range program budget (registers_of l) m v (in-range l n h)).all)

-- ---- registers in range stay so
stands_on : (l k : List ℕ) → length l ≡ 137 → stands l ≡ true → Happens l k → stands k ≡ true
stands_on l k n h (power-up {n = s} cells t) = told-on _ _ l k s t h (λ _. the-events.powered_in_range cells)
stands_on l k n h (sample {n = s} fields t) = told-on _ _ l k s t h (sample-range fields l n h)
stands_on l k n h (tick {n = s} t) = told-on _ _ l k s t h (λ _. tick-range (registers_of l) (parts l h).1)
stands_on l k n h (datagram {bytes = bytes} {p = p} {m = m} {b = b} {p' = p'} {m' = m'} {b' = b'} {n = s} u v a) = datagram-on l h n bytes p m b s k p' m' b' u v a
stands_on l k n h (run {program = program} {m = m} {m' = m'} {budget = budget} {r = r} v a) = run_on l h n program budget m r k m' v a

stands_in_row : (l k : List ℕ) → stands l ≡ true → Row l k → stands k ≡ true
stands_in_row l k h none = h
stands_in_row l k h (also {k = j} n e r) = stands_in_row j k (stands_on l j n h e) r

stands_for_ever : (l : List ℕ) → SincePowerUp l → stands l ≡ true
stands_for_ever j (since {l = l} {k = k} {n = n} cells t e r) =
    stands_in_row k j (told-done _ _ l k n t (sym t.answers ∙ e) (the-events.powered_in_range cells)) r

-- ---- and 23 is never answered
no-23 : (s : Status) → number_of s ≡ 23 → ⊥
no-23 =
    by-status (λ s. number_of s ≡ 23 → ⊥) (λ e. omega arith) (λ e. omega arith) (λ e. omega arith) (λ e. omega arith) (λ e. omega arith)
    (λ e. omega arith) (λ e. omega arith) (λ e. omega arith)

module _ (l : List ℕ) (h : stands l ≡ true) where
  tick_done : (k : List ℕ) (n : ℕ) → Ticks l k n → n ≡ 100
  unfolding tick_status
  tick_done k n t = rw h at t.answers

  sample_never_23 : (fields : List ℤ) (k : List ℕ) (n : ℕ) → Samples fields l k n → n ≡ 23 → ⊥
  unfolding sample_status
  sample_never_23 fields k n t e =
      either (λ (s : ℕ). n ≡ s → ⊥) (sample_in_range (sample_of fields)) 100 21 (λ _ q. omega arith) (λ _ q. omega arith)
      (rw h at t.answers)

  received-never-23 : (t : Result Command NotTaken) (x : Board) → (received t x).status ≡ 23 → ⊥
  unfolding received obeyed_by
  received-never-23 (Err NotOurs) x e = omega arith
  received-never-23 (Err (Damaged n)) x e = no-23 Checksum e
  received-never-23 (Ok c) x e = no-23 (obeyed c x.registers x.program x.store).status e

  datagram_never_23 : (bytes p m b : List ℕ) (n : ℕ) (k p' m' b' : List ℕ) → Answers bytes l p m b n k p' m' b' → n ≡ 23 → ⊥
  unfolding answered
  datagram_never_23 bytes p m b n k p' m' b' a e =
      either (λ (y : After). n ≡ y.status → ⊥) (lent p m b)
      (received (taken_of (byte_of (registers_of l).values 66) bytes) (board (registers_of l) p m b)) (unchanged 20 (board (registers_of l) p m b))
      (λ _ q. received-never-23 _ _ (sym q ∙ e)) (λ _ q. omega arith) (rw h at a.status)

  run_never_23 : (program : List ℕ) (budget : ℕ) (m : List ℕ) (r : Ran) (k m' : List ℕ) → Runs program budget l m r k m' → r.status ≡ 23 → ⊥
  unfolding ran
  run_never_23 program budget m r k m' a e =
      either (λ (y : runs.Answer). r.status ≡ y.status → ⊥) (runs.lent program m) _ (runs.refused 20 (registers_of l) m)
      (λ _. either (λ (y : runs.Answer). r.status ≡ y.status → ⊥) (leb budget 1000) _ (runs.refused 22 (registers_of l) m)
      (λ _ q. no-23 (steps false program budget (registers_of l) m).status (sym q ∙ e)) (λ _ q. omega arith))
      (λ _ q. omega arith) (rw h at a.status)

-- ---- refusals
module _ (r : Registers) (m : List ℕ) (y : runs.Answer) where
  abbrev run_of : Bool → Bool → Bool → runs.Answer
  run_of a b c = pick a (pick b (pick c y (runs.refused 22 r m)) (runs.refused 23 r m)) (runs.refused 20 r m)

  shut-run : (a b c : Bool) → a && (b && c) ≡ false → ((run_of a b c).store ≡ m) × ((run_of a b c).steps ≡ 0)
  shut-run true true true q = absurd (true≢false q)
  shut-run true true false q = (refl, refl)
  shut-run true false c q = (refl, refl)
  shut-run false b c q = (refl, refl)

run_refused : (program : List ℕ) (budget : ℕ) (l m : List ℕ) (r : Ran) (k m' : List ℕ) → Runs program budget l m r k m'
    → runs.lent program m && (stands l && leb budget 1000) ≡ false → (k ≡ l) × (m' ≡ m) × (r.steps ≡ 0)
unfolding ran
run_refused program budget l m r k m' a e =
    let s = shut-run (registers_of l) m _ (runs.lent program m) (stands l) (leb budget 1000) e in
    (a.kept e, a.store ∙ s.0, a.steps ∙ s.1)

shut-datagram : (x : Board) (y : After) (a c : Bool) → a && c ≡ false → (pick a (pick c y (unchanged 23 x)) (unchanged 20 x)).board ≡ x
shut-datagram x y true true q = absurd (true≢false q)
shut-datagram x y true false q = refl
shut-datagram x y false c q = refl

pub datagram_shut : (bytes l p m b : List ℕ) (n : ℕ) (k p' m' b' : List ℕ) → Answers bytes l p m b n k p' m' b'
    → lent p m b && stands l ≡ false → (k ≡ l) × (p' ≡ p) × (m' ≡ m) × (b' ≡ b)
unfolding answered
datagram_shut bytes l p m b n k p' m' b' a e =
    let s = shut-datagram (board (registers_of l) p m b) _ (lent p m b) (stands l) e in
    (a.kept e, a.program ∙ ap (λ (y : Board). y.program) s, a.cells ∙ ap (λ (y : Board). y.store) s, a.reply ∙ ap (λ (y : Board). y.reply) s)

shut-status : (x : Board) (y : After) (a c : Bool) → a && c ≡ false
    → (pick a (pick c y (unchanged 23 x)) (unchanged 20 x)).status ≡ 100 → ⊥
shut-status x y true true q e = true≢false q
shut-status x y true false q e = omega (arith, e)
shut-status x y false c q e = omega (arith, e)

-- a datagram that is answered 100 was lent memory of its lengths, and met registers in range
pub done-open : (bytes l p m b : List ℕ) (n : ℕ) (k p' m' b' : List ℕ) → Answers bytes l p m b n k p' m' b' → n ≡ 100
    → lent p m b && stands l ≡ true
unfolding answered
done-open bytes l p m b n k p' m' b' a e = by (lent p m b && stands l) refl
  where
    by : (t : Bool) → lent p m b && stands l ≡ t → lent p m b && stands l ≡ true
    by true f = f
    by false f = absurd (shut-status (board (registers_of l) p m b) _ (lent p m b) (stands l) f (sym a.status ∙ e))

datagram_refused : (bytes l p m b : List ℕ) (n : ℕ) (k p' m' b' : List ℕ) → Numbers l → Numbers k
    → Answers bytes l p m b n k p' m' b' → (n ≡ 100 → ⊥) → (n ≡ 101 → ⊥) → (k ≡ l) × (p' ≡ p) × (m' ≡ m)
datagram_refused bytes l p m b n k p' m' b' i j a u v = by (lent p m b && stands l) refl
  where
    by : (t : Bool) → lent p m b && stands l ≡ t → (k ≡ l) × (p' ≡ p) × (m' ≡ m)
    by true e =
        let h = (each (lent p m b) (stands l) e).1 in
        let x = board (registers_of l) p m b in
        let d = same-datagram l h bytes p m b in
        let w : n ≡ (datagrams.datagram bytes x).status = a.status ∙ ap (λ (y : After). y.status) d in
        let q = ap (λ (y : After). y.board) d ∙ the-commands.datagram_refused bytes x (λ z. u (w ∙ z)) (λ z. v (w ∙ z)) in
        let s = (parts l h).0 in (
          one_image k l j i (a.stays s) s (a.makes ∙ ap (λ (y : Board). y.registers) q),
          a.program ∙ ap (λ (y : Board). y.program) q,
          a.cells ∙ ap (λ (y : Board). y.store) q,
        )
    by false e = let q = datagram_shut bytes l p m b n k p' m' b' a e in (q.0, q.1, q.2)

-- ---- the program check
the-check : check-laws.Laws
the-check = checking.laws

pub one_check : (program : List ℕ) (c d : Checked) → Checks program c → Checks program d → c ≡ d
one_check program c d x y =
    let e = the-check.one_verdict program x.verdict y.verdict (answer_of x.verdict) (answer_of y.verdict) (x.right, refl) (y.right, refl) in
    x.numbers ∙ ap numbers_of e.1 ∙ sym y.numbers

pub laws : Laws
laws =
    record {
      stands_on = stands_on;
      stands_in_row = stands_in_row;
      stands_for_ever = stands_for_ever;
      tick_done = λ l k n s. tick_done l (stands_for_ever l s) k n;
      sample_never_23 = λ fields l k n s. sample_never_23 l (stands_for_ever l s) fields k n;
      datagram_never_23 = λ bytes l p m b n k p' m' b' s. datagram_never_23 l (stands_for_ever l s) bytes p m b n k p' m' b';
      run_never_23 = λ program budget l m r k m' s. run_never_23 l (stands_for_ever l s) program budget m r k m';
      power_up_refused = λ cells l k n t. told-refused _ _ l k n t;
      sample_refused = λ fields l k n t. told-refused _ _ l k n t;
      tick_refused = λ l k n t. told-refused _ _ l k n t;
      run_refused = run_refused;
      datagram_shut = datagram_shut;
      one_image = one_image;
      datagram_refused = datagram_refused;
      one_check = one_check;
    }
