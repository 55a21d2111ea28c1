-- What a turn does to the wait and to running, and that a step that is no WAIT does not look at the wait. Assumes nothing.
use Prim.Native.Nat.{ℕ}
use native.Mathlib.Omega.{arith}
use mathlib.Core.Path.{◌≡◌, refl, sym, ap, ◌∙◌}
use mathlib.Core.Bool.{Bool, true, false, ◌&&◌}
use mathlib.Core.List.{List}
use borrow.Author.Tests.{eqb-true}
use lib.Dec.{eqb, leb}
use lib.IntN.{ℤ}
use Rattle.words.specs.Word.{pick}
use Rattle.words.specs.declared.Word.{Word}
use Rattle.words.proofs.Bools.{is_T, either, picked}
use Rattle.wire.specs.declared.Command.{Command}
use Rattle.waits.specs.Waits.{dropped_wait}
use Rattle.waits.specs.declared.Wait.{Wait}
use Rattle.status.specs.Status.{is_done, is_unknown}
use Rattle.status.specs.declared.Status.{Status}
use Rattle.status.specs.declared.Status.TheVariants.{Done}
use Rattle.fields.specs.Fields as fields
use Rattle.judge.specs.Judge.{judged, is_flow, is_reading}
use Rattle.waiting.specs.Waiting.{tested, waited, happened, armed_from, armed_with, not_negative, Waited}
use Rattle.waiting.specs.Waiting as waits
use Rattle.rules.specs.Reading.{read, global}
use Rattle.rules.specs.Effects.{applied, Effect}
use Rattle.rules.specs.Effects as effect
use Rattle.rules.specs.Deciding.{decided, worked}
use Rattle.board.specs.declared.Registers.{Registers}
use Rattle.reg_image.specs.With.{in_core, with_accumulator}
use Rattle.cmd_turns.specs.declared.Left.TheVariants.{Goes, Holds, Stops}
use Rattle.cmd_turns.specs.Turn.{Turn, turn, on, dropped, work, after_wait, flowed, through, turned}
use Rattle.cmd_turns.specs.Settled.{stepped}
use Rattle.cmd_turns.proofs.Settled.{alike}
use Rattle.cmd_turns.proofs.Decides.{known}

-- no two of what is left are one
pub go-hold : {A : Type 0} → Goes ≡ Holds → A
go-hold q = let z : ◌≡◌ {A = ℕ} 0 1 = cc in absurd (omega arith)

pub hold-go : {A : Type 0} → Holds ≡ Goes → A
hold-go q = let z : ◌≡◌ {A = ℕ} 0 1 = cc in absurd (omega arith)

pub stop-hold : {A : Type 0} → Stops ≡ Holds → A
stop-hold q = let z : ◌≡◌ {A = ℕ} 0 1 = cc in absurd (omega arith)

pub stop-go : {A : Type 0} → Stops ≡ Goes → A
stop-go q = let z : ◌≡◌ {A = ℕ} 0 1 = cc in absurd (omega arith)

pub record Facts (r : Registers) (t : Turn) : Type 0 where
  -- a wait is left only by a WAIT that holds, armed then
  pub wait : (t.left ≡ Holds → ⊥) → t.registers.core.wait ≡ dropped_wait
  pub armed : t.left ≡ Holds → t.registers.core.wait.armed ≡ true
  -- and running stays where the program goes on
  pub running : t.left ≡ Goes → t.registers.core.running ≡ r.core.running

module _ (r : Registers) (m : List ℕ) (c : Command) where
  -- ---- a WAIT
  abbrev Armed : Waited → Type 0
  Armed waits.Refused = Unit {0}
  Armed waits.Passed = Unit {0}
  Armed waits.TimedOut = Unit {0}
  Armed (waits.Holding w) = w.armed ≡ true

  tested-armed : (k : ℕ) (v : List ℤ) (w : Wait) → w.armed ≡ true → Armed (tested k v w)
  unfolding tested
  tested-armed k v w e =
      picked Armed (eqb k 0) _ _ (λ _. picked Armed (eqb w.count 0) _ _ (λ _. tt) e)
      (picked Armed (happened k v) _ _ (λ _. tt) (picked Armed (w.timed && eqb w.count 0) _ _ (λ _. tt) e))

  waited-armed : (k : ℕ) (v a : Word) (vs : List ℤ) (w : Wait) → Armed (waited k v a vs w)
  unfolding waited
  waited-armed k v a vs w =
      picked Armed w.armed _ _ (λ e. tested-armed k vs w e)
      (picked Armed (not_negative (armed_from k v a).v) _ _ (λ _. tested-armed k vs (armed_with (armed_from k v a).v) refl) tt)

  goes_on : (t : Turn) → t.left ≡ Goes → t.registers.core.wait ≡ dropped_wait → t.registers.core.running ≡ r.core.running → Facts r t
  goes_on t l w e = record { wait = λ _. w; armed = λ h. go-hold (sym l ∙ h); running = λ _. e }

  await : (w : Waited) → Armed w → Facts r (after_wait w r m)
  await waits.Refused a = goes_on _ refl refl refl
  await waits.Passed a = goes_on _ refl refl refl
  await waits.TimedOut a = goes_on _ refl refl refl
  await (waits.Holding w) a =
      record { wait = λ h. absurd (h refl); armed = λ _. a; running = λ h. hold-go h }

  pub awaits : eqb c.number 27 ≡ true → Facts r (turned c r m)
  unfolding turned through is_flow flowed judged
  awaits e =
      let n : c.number ≡ 27 = eqb-true c.number 27 e in
      rw n
      (rw (known true (fields.waits_there c.kind c.motor) (leb c.kind 3) (fields.waitable c.kind c.value.v) true)
      (picked (Facts r) (is_done (fields.wait c)) _ _ (λ _. await (waited c.kind c.value r.core.accumulator r.values r.core.wait) (waited-armed c.kind c.value r.core.accumulator r.values r.core.wait))
      (goes_on _ refl refl refl)))

  -- ---- any other command, where no wait is armed
  module _ (d : r.core.wait ≡ dropped_wait) where
    work-facts : (e : Effect) → Facts r (work (applied e r.core r.values r.outputs m) r)
    work-facts (effect.Refused s) = goes_on _ refl d refl
    work-facts (effect.Turn o w) = goes_on _ refl d refl
    work-facts (effect.Move w) = goes_on _ refl d refl
    work-facts (effect.Set p w) = goes_on _ refl d refl
    work-facts (effect.Global p w) = goes_on _ refl d refl
    work-facts (effect.Store p) = goes_on _ refl d refl
    work-facts (effect.Restore p) = goes_on _ refl d refl
    work-facts (effect.Output p b) = goes_on _ refl d refl
    work-facts (effect.Numbers a x) = goes_on _ refl d refl
    work-facts (effect.Last l) = goes_on _ refl d refl
    work-facts (effect.Clear f) = goes_on _ refl d refl

    pub stops : (s : Status) → Facts r (turn r m s Stops)
    stops s = record { wait = λ _. d; armed = stop-hold; running = stop-go }

    halts : (t : Turn) → t.left ≡ Stops → t.registers.core.wait ≡ dropped_wait → Facts r t
    halts t l w = record { wait = λ _. w; armed = λ h. stop-hold (sym l ∙ h); running = λ h. stop-go (sym l ∙ h) }

    flow-facts : eqb c.number 27 ≡ false → Facts r (flowed c r m)
    unfolding flowed
    flow-facts e =
        let n = c.number in
        picked (Facts r) (eqb n 21) _ _ (λ _. goes_on _ refl d refl)
        (picked (Facts r) (eqb n 22) _ _ (λ _. goes_on _ refl d refl)
        (picked (Facts r) (eqb n 23) _ _ (λ _. picked (Facts r) (leb 8 r.core.depth) _ _ (λ _. goes_on _ refl d refl) (goes_on _ refl d refl))
        (picked (Facts r) (eqb n 24) _ _ (λ _. picked (Facts r) (eqb r.core.depth 0) _ _ (λ _. goes_on _ refl d refl) (goes_on _ refl d refl))
        (either (Facts r) (eqb n 27) _ _ (λ t. absurd (is_T false (sym e ∙ t))) (λ _. halts _ refl d)))))

    shut-facts : (s : Status) (b : Bool) → Facts r (on s (pick b (dropped r) r) m)
    shut-facts s true = goes_on _ refl refl refl
    shut-facts s false = goes_on _ refl d refl

    pub others : eqb c.number 27 ≡ false → Facts r (turned c r m)
    unfolding turned through worked
    others e =
        picked (Facts r) (is_unknown (judged c)) _ _ (λ _. stops (judged c))
        (picked (Facts r) (is_done (judged c)) _ _
        (λ _. picked (Facts r) (is_flow c.number) _ _ (λ _. flow-facts e)
        (picked (Facts r) (is_reading c.number) _ _ (λ _. goes_on _ refl d refl) (work-facts (decided c r.core r.values))))
        (shut-facts (judged c) (eqb c.number 27)))

  -- ---- a command that is no WAIT, from registers with the wait dropped
  blind-work : (e : Effect)
      → stepped (work (applied e (dropped r).core r.values r.outputs m) (dropped r)) ≡ stepped (work (applied e r.core r.values r.outputs m) r)
  blind-work (effect.Refused s) = refl
  blind-work (effect.Turn o w) = refl
  blind-work (effect.Move w) = refl
  blind-work (effect.Set p w) = refl
  blind-work (effect.Global p w) = refl
  blind-work (effect.Store p) = refl
  blind-work (effect.Restore p) = refl
  blind-work (effect.Output p b) = refl
  blind-work (effect.Numbers a x) = refl
  blind-work (effect.Last l) = refl
  blind-work (effect.Clear f) = refl

  blind-shut : (s : Status) (b : Bool) → stepped (on s (pick b (dropped (dropped r)) (dropped r)) m) ≡ stepped (on s (pick b (dropped r) r) m)
  blind-shut s true = refl
  blind-shut s false = refl

  blind-flow : eqb c.number 27 ≡ false → stepped (flowed c (dropped r) m) ≡ stepped (flowed c r m)
  unfolding flowed
  blind-flow e =
      let n = c.number in
      alike stepped stepped (eqb n 21) _ _ _ _ (λ _. refl)
      (λ _. alike stepped stepped (eqb n 22) _ _ _ _ (λ _. refl)
      (λ _. alike stepped stepped (eqb n 23) _ _ _ _ (λ _. alike stepped stepped (leb 8 r.core.depth) _ _ _ _ (λ _. refl) (λ _. refl))
      (λ _. alike stepped stepped (eqb n 24) _ _ _ _ (λ _. alike stepped stepped (eqb r.core.depth 0) _ _ _ _ (λ _. refl) (λ _. refl))
      (λ _. alike stepped stepped (eqb n 27) _ _ _ _ (λ t. absurd (is_T false (sym e ∙ t))) (λ _. refl)))))

  blind-read : read c (dropped r).core r.values r.outputs r.digital r.analog ≡ read c r.core r.values r.outputs r.digital r.analog
  unfolding read global
  blind-read = refl

  blind-through : eqb c.number 27 ≡ false → stepped (through c (dropped r) m) ≡ stepped (through c r m)
  unfolding through worked
  blind-through e =
      alike stepped stepped (is_flow c.number) _ _ _ _ (λ _. blind-flow e)
      (λ _. alike stepped stepped (is_reading c.number) _ _ _ _
      (λ _. ap (λ (w : Word). stepped (on Done (in_core (with_accumulator w) r) m)) blind-read) (λ _. blind-work (decided c r.core r.values)))

  pub blind : eqb c.number 27 ≡ false → stepped (turned c (dropped r) m) ≡ stepped (turned c r m)
  unfolding turned
  blind e =
      alike stepped stepped (is_unknown (judged c)) _ _ _ _ (λ _. refl)
      (λ _. alike stepped stepped (is_done (judged c)) _ _ _ _ (λ _. blind-through e) (λ _. blind-shut (judged c) (eqb c.number 27)))
