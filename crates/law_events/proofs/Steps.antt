-- The laws of steps, runs and 130. Assumes nothing.
use Rattle.std.specs.Prelude.{Result, Ok}
use Prim.Native.Nat.{ℕ, zero, suc, ◌<◌}
use native.Mathlib.Omega.{arith}
use mathlib.Core.Path.{◌≡◌, refl, sym, ap, subst, ◌∙◌}
use mathlib.Core.Logic.{◌⊎◌, inl, inr, ⊎_elim}
use mathlib.Core.Bool.{Bool, true, false, true≢false, not, ◌&&◌, ◌||◌}
use mathlib.Core.List.{List}
use lib.Dec.{eqb, leb}
use borrow.Author.Tests.{eq-eqb, le-leb}
use Rattle.words.proofs.Bools.{each}
use Rattle.wire.specs.declared.Command.{Command}
use Rattle.status.specs.Status.{number_of}
use Rattle.status.specs.declared.Status.TheVariants.{Done, Unknown}
use Rattle.status.proofs.Statuses.{number-done}
use Rattle.serial.specs.Serial.{taken_of}
use Rattle.serial.specs.declared.NotTaken.{NotTaken}
use Rattle.rules.specs.Step.{State, Pins, After}
use Rattle.rules.specs.Run.{Progress, begun, advanced, run, summary}
use Rattle.rules.specs.RunLaws.{walked}
use Rattle.rules.specs.RunLaws as run-laws
use Rattle.rules.proofs.Counts as counts
use Rattle.rules.specs.Steps.{Turn, state_of, pins_of, with_state, step_once, steps, steps_of}
use Rattle.board.specs.declared.Registers.{Registers}
use Rattle.rules.specs.Controlling as controlling
use Rattle.rules.proofs.ControllingCases.{by-judge}
use Rattle.rules.specs.Outcome.{Changed}
use Rattle.rules.specs.Obey as commands
use Rattle.rules.specs.RunEvent.{Answer, after_steps}
use Rattle.rules.specs.RunEvent as runs
use Rattle.replying.specs.Reply.{byte_of}
use Rattle.rules.specs.Datagram as datagrams
use Rattle.rules.specs.Datagram.{Board, board, lent, received, obeyed_by}
use Rattle.reg_image.specs.Image.{registers_of}
use Rattle.reg_range.specs.Range.{stands}
use Rattle.board_datagrams.specs.Datagram.{Answers, answered}
use Rattle.board_runs.specs.Run.{Runs, ran, Ran}
use Rattle.law_rows.proofs.Rules.{done-open}
use Rattle.law_events.specs.Steps.{Steps, Ends, before, single_steps, held, skipped}
use Rattle.law_events.specs.Waits.{wait_holds}
use Rattle.law_events.proofs.Waits.{armed_holds}
use Rattle.law_events.proofs.Refusals.{refused_step, outside_step, unknown_step}

-- ---- single steps are a walk
abbrev turn : Progress → Registers → Turn
turn x r = record { registers = with_state x.state r; store = x.state.store; status = x.status }

single-walk : (program : List ℕ) (r : Registers) (k : ℕ) (x : Progress)
    → single_steps program k (turn x r) ≡ turn (walked program (pins_of r) k x) r
unfolding single_steps walked step_once
single-walk program r zero x = refl
single-walk program r (suc k) x = single-walk program r k (advanced program (pins_of r) x)

-- ---- and what ends a run is told by the WAIT
walked-last : (program : List ℕ) (p : Pins) (k : ℕ) (x : Progress) → walked program p (suc k) x ≡ advanced program p (walked program p k x)
unfolding walked
walked-last program p zero x = refl
walked-last program p (suc k) x = walked-last program p k (advanced program p x)

goes : (held running : Bool) → not held && (false || running) ≡ true → (running ≡ true) × (held ≡ false)
goes true running e = absurd (true≢false (sym e))
goes false running e = (e, refl)

stays : (held running : Bool) → not held && (false || running) ≡ false → (running ≡ false) ⊎ (held ≡ true)
stays true running e = inr refl
stays false running e = inl e

module _ (program : List ℕ) (r : Registers) (m : List ℕ) where
  abbrev walked_by : ℕ → Progress
  walked_by j = walked program (pins_of r) j (begun (state_of r m))

  single : (j : ℕ) → single_steps program j (before r m) ≡ turn (walked_by j) r
  single j = single-walk program r j (begun (state_of r m))

  none-held : (walked_by 0).held ≡ false
  unfolding walked
  none-held = refl

  same-held : (j : ℕ) → (walked_by j).held ≡ held program (before r m) j
  unfolding held
  same-held zero = none-held
  same-held (suc j) =
      ap (λ (x : Progress). x.held) (walked-last program (pins_of r) j (begun (state_of r m)))
      ∙ armed_holds program (pins_of r) (walked_by j).state
      ∙ sym (ap (λ (t : Turn). wait_holds program (state_of t.registers t.store)) (single j))

  same-running : (j : ℕ) → (walked_by j).state.core.running ≡ (single_steps program j (before r m)).registers.core.running
  same-running j = sym (ap (λ (t : Turn). t.registers.core.running) (single j))

  ends : (budget k : ℕ) → run-laws.Makes false program (pins_of r) budget (begun (state_of r m)) k → Ends program budget (before r m) k
  ends budget k x =
      record {
        within = x.within;
        going = λ j h.
            let g = goes (walked_by j).held (walked_by j).state.core.running (x.going j h) in
            (sym (same-running j) ∙ g.0, sym (same-held j) ∙ g.1);
        ended = ⊎_elim inl
            (λ e. ⊎_elim (λ q. inr (inl (sym (same-running k) ∙ q))) (λ q. inr (inr (sym (same-held k) ∙ q)))
            (stays (walked_by k).held (walked_by k).state.core.running e))
            x.ended;
      }

-- ---- a run that is not refused
module _ (program : List ℕ) (budget : ℕ) (l m : List ℕ) (h : runs.lent program m && (stands l && leb budget 1000) ≡ true) where
  run-open : ran program budget l m ≡ after_steps (steps false program budget (registers_of l) m)
  unfolding ran
  run-open =
      let a = each (runs.lent program m) (stands l && leb budget 1000) h in
      let b = each (stands l) (leb budget 1000) a.1 in
      rw (a.0, b.0, b.1) refl

  abbrev walk : Progress
  walk = run false program (pins_of (registers_of l)) budget (begun (state_of (registers_of l) m))

  steps-open : steps false program budget (registers_of l) m ≡ steps_of (summary walk) (registers_of l)
  unfolding steps
  steps-open = refl

  run-walk : turn walk (registers_of l) ≡ single_steps program walk.steps (before (registers_of l) m)
  run-walk =
      let w : run-laws.Laws = counts.laws in
      let r = registers_of l in
      ap (λ (x : Progress). turn x r) (w.run_steps false program (pins_of r) budget (state_of r m))
      ∙ sym (single-walk program r walk.steps (begun (state_of r m)))

  module _ (r : Ran) (k m' : List ℕ) (x : Runs program budget l m r k m') where
    all : ran program budget l m ≡ after_steps (steps_of (summary walk) (registers_of l))
    all = run-open ∙ ap after_steps steps-open

    same : turn walk (registers_of l) ≡ single_steps program r.steps (before (registers_of l) m)
    same =
        run-walk
        ∙ ap (λ (n : ℕ). single_steps program n (before (registers_of l) m)) (sym (x.steps ∙ ap (λ (a : Answer). a.steps) all))

    run_is_steps : (registers_of k ≡ (single_steps program r.steps (before (registers_of l) m)).registers)
        × (m' ≡ (single_steps program r.steps (before (registers_of l) m)).store)
        × (r.status ≡ number_of (single_steps program r.steps (before (registers_of l) m)).status)
    run_is_steps = (
      x.makes ∙ ap (λ (a : Answer). a.registers) all ∙ ap (λ (t : Turn). t.registers) same,
      x.store ∙ ap (λ (a : Answer). a.store) all ∙ ap (λ (t : Turn). t.store) same,
      x.status ∙ ap (λ (a : Answer). a.status) all ∙ ap (λ (t : Turn). number_of t.status) same,
    )

    run_ends : Ends program budget (before (registers_of l) m) r.steps
    run_ends =
        let w : run-laws.Laws = counts.laws in
        subst (Ends program budget (before (registers_of l) m)) (sym (x.steps ∙ ap (λ (a : Answer). a.steps) all))
        (ends program (registers_of l) m budget walk.steps
        (w.run_makes false program (pins_of (registers_of l)) budget (state_of (registers_of l) m)))

-- ---- 130
module _ (c : Command) (r : Registers) (p m : List ℕ) (q : c.number ≡ 130) where
  abbrev Stepped : Changed → Type 0
  Stepped o =
      eqb (number_of o.obeyed.status) 100 ≡ true
      → (o.obeyed.registers ≡ (step_once p r m).registers) × (o.store ≡ (step_once p r m).store)

  turned : controlling.controlled c p r m ≡ controlling.after_turn (step_once p r m)
  unfolding controlling.controlled
  turned = rw q refl

  control-130 : Stepped (controlling.obeyed_control c p r m)
  control-130 =
      by-judge c p r m Stepped
      (λ _ _. (ap (λ (b : controlling.Both). b.registers) turned, ap (λ (b : controlling.Both). b.store) turned))
      (λ d e. absurd (true≢false (sym e ∙ number-done (controlling.judged_control c r) ∙ d)))

  obeyed-130 : number_of (commands.obeyed c r p m).status ≡ 100
      → ((commands.obeyed c r p m).registers ≡ (step_once p r m).registers)
      × ((commands.obeyed c r p m).store ≡ (step_once p r m).store)
      × ((commands.obeyed c r p m).program ≡ p)
  unfolding commands.obeyed
  obeyed-130 =
      simp (le-leb 128 c.number (omega (arith, q)))
      (λ e. let s = control-130 (eq-eqb (number_of (controlling.obeyed_control c p r m).obeyed.status) 100 e) in (s.0, s.1, refl))

module _ (bytes l p m b : List ℕ) (n : ℕ) (k p' m' b' : List ℕ) (c : Command) (a : Answers bytes l p m b n k p' m' b')
    (w : taken_of (byte_of (registers_of l).values 66) bytes ≡ Ok c) where
  abbrev x : Board
  x = board (registers_of l) p m b

  opened : lent p m b && stands l ≡ true → answered bytes l p m b ≡ obeyed_by c x
  unfolding answered received
  opened h = let t = each (lent p m b) (stands l) h in rw (t.0, t.1) (ap (λ (t : Result Command NotTaken). received t x) w)

  obeys : obeyed_by c x ≡ datagrams.after_obeying (commands.obeyed c (registers_of l) p m) c x
  unfolding obeyed_by
  obeys = refl

  single_step : c.number ≡ 130 → n ≡ 100
      → (registers_of k ≡ (step_once p (registers_of l) m).registers) × (m' ≡ (step_once p (registers_of l) m).store) × (p' ≡ p)
  single_step q e =
      let y = opened (done-open bytes l p m b n k p' m' b' a e) ∙ obeys in
      let s = obeyed-130 c (registers_of l) p m q (sym (ap (λ (z : datagrams.After). z.status) y) ∙ sym a.status ∙ e) in (
        a.makes ∙ ap (λ (z : datagrams.After). z.board.registers) y ∙ s.0,
        a.cells ∙ ap (λ (z : datagrams.After). z.board.store) y ∙ s.1,
        a.program ∙ ap (λ (z : datagrams.After). z.board.program) y ∙ s.2,
      )

-- ---- a refused step at the event
module _ (p : List ℕ) (r : Registers) (m : List ℕ) (low : r.core.address < 1024) (d : (step_once p r m).status ≡ Done → ⊥)
    (u : (step_once p r m).status ≡ Unknown → ⊥) where
  skips : ((step_once p r m).registers ≡ skipped r) × ((step_once p r m).store ≡ m)
  unfolding step_once
  skips =
      let e = refused_step p (pins_of r) (state_of r m) low d u in
      (ap (λ (y : State). with_state y r) e, ap (λ (y : State). y.store) e)

refused_130 : (bytes l p m b : List ℕ) (n : ℕ) (k p' m' b' : List ℕ) (c : Command) → Answers bytes l p m b n k p' m' b'
    → taken_of (byte_of (registers_of l).values 66) bytes ≡ Ok c → c.number ≡ 130 → n ≡ 100 → (registers_of l).core.address < 1024
    → ((step_once p (registers_of l) m).status ≡ Done → ⊥) → ((step_once p (registers_of l) m).status ≡ Unknown → ⊥)
    → (registers_of k ≡ skipped (registers_of l)) × (m' ≡ m) × (p' ≡ p)
refused_130 bytes l p m b n k p' m' b' c a w q e low d u =
    let s = single_step bytes l p m b n k p' m' b' c a w q e in
    let t = skips p (registers_of l) m low d u in
    (s.0 ∙ t.0, s.1 ∙ t.1, s.2)

refused_run : (program : List ℕ) (budget : ℕ) (l m : List ℕ) (r : Ran) (k m' : List ℕ) → Runs program budget l m r k m'
    → runs.lent program m && (stands l && leb budget 1000) ≡ true → r.steps ≡ 1 → (registers_of l).core.address < 1024
    → (r.status ≡ 100 → ⊥) → (r.status ≡ 2 → ⊥) → (registers_of k ≡ skipped (registers_of l)) × (m' ≡ m)
unfolding single_steps
refused_run program budget l m r k m' x h one low d u =
    let s = run_is_steps program budget l m h r k m' x in
    let e : single_steps program r.steps (before (registers_of l) m) ≡ step_once program (registers_of l) m
    = ap (λ (n : ℕ). single_steps program n (before (registers_of l) m)) one in
    let v = s.2 ∙ ap (λ (t : Turn). number_of t.status) e in
    let t = skips program (registers_of l) m low (λ q. d (v ∙ ap number_of q)) (λ q. u (v ∙ ap number_of q)) in
    (s.0 ∙ ap (λ (y : Turn). y.registers) e ∙ t.0, s.1 ∙ ap (λ (y : Turn). y.store) e ∙ t.1)

pub steps-laws : Steps
steps-laws =
    record {
      refused_step = refused_step;
      outside_step = outside_step;
      unknown_step = unknown_step;
      armed_holds = armed_holds;
      single_step = single_step;
      run_is_steps = λ program budget l m r k m' x h. run_is_steps program budget l m h r k m' x;
      run_ends = λ program budget l m r k m' x h. run_ends program budget l m h r k m' x;
      refused_130 = refused_130;
      refused_run = refused_run;
    }
