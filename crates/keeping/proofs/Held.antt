-- A step leaves a wait armed exactly if it is a WAIT that holds. Assumes nothing.
use Prim.Native.Nat.{ℕ}
use mathlib.Core.Path.{◌≡◌, refl}
use mathlib.Core.Bool.{Bool, true, false, not, ◌&&◌}
use mathlib.Core.List.{List}
use borrow.Author.Tests.{eqb-true, eqb-false}
use lib.Dec.{eqb, leb}
use lib.IntN.{ℤ}
use Rattle.words.specs.Word.{pick}
use Rattle.words.specs.declared.Word.{Word}
use Rattle.words.proofs.Bools.{picked}
use Rattle.wire.specs.declared.Command.{Command}
use Rattle.store.specs.Store.{record_at}
use Rattle.registers.specs.Registers.{next, stopped}
use Rattle.registers.specs.declared.Core.{Core}
use Rattle.waits.specs.declared.Wait.{Wait}
use Rattle.status.specs.Status.{is_done, is_unknown}
use Rattle.status.specs.declared.Status.{Status}
use Rattle.status.specs.declared.Status.TheVariants.{Value}
use Rattle.status.proofs.Statuses.{by-status}
use Rattle.waiting.specs.Waiting.{happened, not_negative, armed_from, armed_with, tested, waited, Waited}
use Rattle.judge.specs.Judge.{judged, is_flow}
use Rattle.rules.specs.Flow.{Flow, flow, jumped, called, returned, halted, after_wait, waited_step, flowed}
use Rattle.rules.proofs.FlowCases.{by-command}
use Rattle.rules.specs.Step.{State, Pins, After, after, only, carried, obeyed, step}
use Rattle.rules.proofs.StepCases.{by-carried}
use Rattle.keeping.specs.Laws.{is_holding, holds}

-- ---- a WAIT
module _ (c : Core) where
  abbrev Tells : Waited → Type 0
  Tells w = (after_wait w c).core.wait.armed ≡ is_holding w

  tested-tells : (kind : ℕ) (values : List ℤ) (w : Wait) → w.armed ≡ true → Tells (tested kind values w)
  unfolding tested
  tested-tells kind values w e =
      picked Tells (eqb kind 0) _ _ (λ _. picked Tells (eqb w.count 0) _ _ (λ _. refl) e)
      (picked Tells (happened kind values) _ _ (λ _. refl) (picked Tells (w.timed && eqb w.count 0) _ _ (λ _. refl) e))

  waited-tells : (kind : ℕ) (value : Word) (values : List ℤ) → Tells (waited kind value c.accumulator values c.wait)
  unfolding waited
  waited-tells kind value values =
      let z = (armed_from kind value c.accumulator).v in
      picked Tells c.wait.armed _ _ (tested-tells kind values c.wait)
      (picked Tells (not_negative z) _ _ (λ _. tested-tells kind values (armed_with z) refl) refl)

-- ---- the other commands of the program's flow
abbrev Free : Flow → Type 0
Free f = f.core.wait.armed ≡ false

jumped-free : (taken : Bool) (z : ℤ) (c : Core) (e : List ℕ) → Free (flow (jumped taken z c) e)
unfolding jumped
jumped-free true z c e = refl
jumped-free false z c e = refl

called-free : (z : ℤ) (c : Core) (e : List ℕ) → Free (called z c e)
unfolding called
called-free z c e = picked Free (leb 8 c.depth) _ _ (λ _. refl) refl

returned-free : (c : Core) (e : List ℕ) → Free (returned c e)
unfolding returned
returned-free c e = picked Free (eqb c.depth 0) _ _ (λ _. refl) refl

halted-free : (c : Core) → Free (halted c)
unfolding halted
halted-free c = refl

flowed-free : (r : Command) (c : Core) (e : List ℕ) (values : List ℤ) → eqb r.number 27 ≡ false → Free (flowed r c e values)
flowed-free r c e values h =
    by-command r c e values Free
    (record {
      jc = λ b _. jumped-free b r.value.v c e;
      ja = λ _. jumped-free true r.value.v c e;
      csub = λ _. called-free r.value.v c e;
      rsub = λ _. returned-free c e;
      wait = λ q. absurd (eqb-false r.number 27 h q);
      stop = halted-free c;
    })

-- ---- a record that the judge lets through
abbrev armed : After → Bool
armed y = y.state.core.wait.armed

module _ (r : Command) (p : Pins) (x : State) where
  abbrev held : Bool
  held = is_holding (waited r.kind r.value x.core.accumulator x.values x.core.wait)

  wait-armed : r.number ≡ 27 → armed (carried r p x) ≡ held
  unfolding carried is_flow flowed waited_step
  wait-armed e = rw e (waited-tells x.core r.kind r.value x.values)

  other-armed : eqb r.number 27 ≡ false → armed (carried r p x) ≡ false
  other-armed h =
      by-carried p x (λ y. armed y ≡ false) r
      (record { flow = flowed-free r x.core x.entries x.values h; reading = λ _. refl; work = λ _. refl })

  carried-held : (b : Bool) → eqb r.number 27 ≡ b → armed (carried r p x) ≡ b && held
  carried-held true e = wait-armed (eqb-true r.number 27 e)
  carried-held false e = other-armed e

-- ---- every step
obeyed-held : (r : Command) (p : Pins) (x : State) → armed (obeyed r p x) ≡ holds r x
unfolding obeyed
obeyed-held r p x =
    let stop = after (judged r) (only (stopped x.core) x) in
    let goes = after (judged r) (only (next x.core) x) in
    let P : Status → Type 0 = λ s. armed (pick (is_unknown s) stop (pick (is_done s) (carried r p x) goes)) ≡ is_done s && armed (carried r p x) in
    rw (← carried-held r p x (eqb r.number 27) refl) (by-status P refl refl refl refl refl refl refl refl (judged r))

by_end : (b : Bool) (u v : After) → armed u ≡ false → armed (pick b u v) ≡ not b && armed v
by_end true u v e = e
by_end false u v e = refl

pub step_held : (program : List ℕ) (p : Pins) (x : State)
    → armed (step program p x) ≡ not (leb 1024 x.core.address) && holds (record_at program x.core.address) x
unfolding step
step_held program p x =
    let r = record_at program x.core.address in
    rw (← obeyed-held r p x) (by_end (leb 1024 x.core.address) (after Value (only (stopped x.core) x)) (obeyed r p x) refl)
