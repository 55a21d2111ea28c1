-- Two answers that meet an event's promise are one. Assumes nothing.
use Prim.Native.Nat.{ℕ}
use mathlib.Core.Path.{◌≡◌, refl, sym, ◌∙◌}
use mathlib.Core.Bool.{Bool, true, false, true≢false, ◌&&◌}
use mathlib.Core.List.{List}
use lib.Dec.{eqb, leb}
use Rattle.board.specs.declared.Registers.{Registers}
use Rattle.rules.specs.Datagram.{lent}
use Rattle.reg_image.specs.Image.{registers_of, shaped}
use Rattle.reg_range.specs.Range.{stands}
use Rattle.board_events.specs.Standing.{Told, Leaving}
use Rattle.board_datagrams.specs.Datagram.{Answers}
use Rattle.board_runs.specs.Run.{Runs, Ran}
use Rattle.board_runs.specs.Run as image-runs
use Rattle.rules.specs.RunEvent as runs
use Rattle.law_rows.specs.Rows.{Numbers}
use Rattle.law_rows.proofs.Places.{one_image}
use Rattle.law_events.specs.Answers.{OneAnswer}

-- ---- an image that is left: known by its registers where it has its shape, and as it was where it had none
module _ (l k k' : List ℕ) (i : Numbers k) (j : Numbers k') where
  not-shaped : shaped l ≡ false → stands l ≡ false
  unfolding stands
  not-shaped e = rw e refl

  none_open : (a : Bool) → stands l ≡ false → a && stands l ≡ false
  none_open true e = e
  none_open false e = refl

  same-image : (shaped l ≡ true → shaped k ≡ true) → (shaped l ≡ true → shaped k' ≡ true) → registers_of k ≡ registers_of k'
      → (stands l ≡ false → k ≡ l) → (stands l ≡ false → k' ≡ l) → k ≡ k'
  same-image s t e u v = by (shaped l) refl
    where
      by : (b : Bool) → shaped l ≡ b → k ≡ k'
      by true h = one_image k k' i j (s h) (t h) e
      by false h = u (not-shaped h) ∙ sym (v (not-shaped h))

one_datagram : (bytes l p m b : List ℕ) (n : ℕ) (k q c a : List ℕ) (n' : ℕ) (k' q' c' a' : List ℕ) → Numbers k → Numbers k'
    → Answers bytes l p m b n k q c a → Answers bytes l p m b n' k' q' c' a'
    → (n ≡ n') × (k ≡ k') × (q ≡ q') × (c ≡ c') × (a ≡ a')
one_datagram bytes l p m b n k q c a n' k' q' c' a' i j x y =
    let shut : stands l ≡ false → lent p m b && stands l ≡ false = none_open l k k' i j (lent p m b) in (
      x.status ∙ sym y.status,
      same-image l k k' i j x.stays y.stays (x.makes ∙ sym y.makes) (λ e. x.kept (shut e)) (λ e. y.kept (shut e)),
      x.program ∙ sym y.program,
      x.cells ∙ sym y.cells,
      x.reply ∙ sym y.reply,
    )

shut-run : (a s b : Bool) → s ≡ false → a && (s && b) ≡ false
shut-run true true b e = absurd (true≢false e)
shut-run true false b e = refl
shut-run false s b e = refl

one_run : (program : List ℕ) (budget : ℕ) (l m : List ℕ) (r : Ran) (k c : List ℕ) (r' : Ran) (k' c' : List ℕ) → Numbers k → Numbers k'
    → Runs program budget l m r k c → Runs program budget l m r' k' c' → (r ≡ r') × (k ≡ k') × (c ≡ c')
one_run program budget l m r k c r' k' c' i j x y =
    let s = x.status ∙ sym y.status in
    let t = x.steps ∙ sym y.steps in
    let shut = shut-run (runs.lent program m) (stands l) (leb budget 1000) in (
      λ i. image-runs.answered (s i) (t i),
      same-image l k k' i j x.stays y.stays (x.makes ∙ sym y.makes) (λ e. x.kept (shut e)) (λ e. y.kept (shut e)),
      x.store ∙ sym y.store,
    )

-- ---- power-up, sample and tick
one_told : (status : ℕ) (r : Registers) (l k k' : List ℕ) (n n' : ℕ) → Numbers k → Numbers k' → Told status r l k n → Told status r l k' n'
    → (n ≡ n') × (k ≡ k')
one_told status r l k k' n n' i j x y = (x.answers ∙ sym y.answers, by (eqb status 100) x.leaves y.leaves)
  where
    by : (b : Bool) → Leaving b r l k → Leaving b r l k' → k ≡ k'
    by true u v = one_image k k' i j u.shape v.shape (u.of ∙ sym v.of)
    by false u v = u ∙ sym v

pub one_answer : OneAnswer
one_answer =
    record {
      one_datagram = one_datagram;
      one_run = one_run;
      one_power_up = λ cells l k k' n n'. one_told _ _ l k k' n n';
      one_sample = λ fields l k k' n n'. one_told _ _ l k k' n n';
      one_tick = λ l k k' n n'. one_told _ _ l k k' n n';
    }
