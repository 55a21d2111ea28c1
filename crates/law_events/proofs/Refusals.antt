-- A refused step changes only the address, by one, and drops a wait. Assumes nothing.
use Prim.Native.Nat.{ℕ, ◌+◌, ◌≤◌, ◌<◌}
use mathlib.Core.Path.{◌≡◌, refl, sym, ap, ◌∙◌}
use mathlib.Core.Bool.{Bool, true, false, true≢false}
use mathlib.Core.List.{List}
use lib.Dec.{eqb, leb}
use lib.IntN.{ℤ}
use borrow.Author.Tests.{lt-leb, lt-ltb, le-leb}
use Rattle.words.proofs.Bools.{either}
use Rattle.wire.specs.declared.Command.{Command}
use Rattle.store.specs.Store.{record_at}
use Rattle.status.specs.Status.{is_done, is_unknown}
use Rattle.status.specs.declared.Status.{Status}
use Rattle.status.specs.declared.Status.TheVariants.{Done, Unknown, Value}
use Rattle.status.proofs.Statuses.{by-status, is-done}
use Rattle.registers.specs.Registers.{moved, next, stopped}
use Rattle.waiting.specs.Waiting.{waited, Waited, Refused, Passed, TimedOut, Holding}
use Rattle.judge.specs.Judge.{judged}
use Rattle.rules.specs.Flow.{Flow, flow, jumped, called, returned, halted, after_wait, waited_step, flowed}
use Rattle.rules.proofs.FlowCases as flows
use Rattle.rules.specs.Deciding.{decided, worked}
use Rattle.rules.specs.Step.{State, state, Pins, After, after, only, after_flow, after_work, carried, obeyed, step}
use Rattle.rules.proofs.StepCases as steps
use Rattle.keeping.proofs.Applied.{applied-refused}

module _ (x : State) where
  abbrev Skips : After → Type 0
  Skips y = is_done y.status ≡ false → y.state ≡ only (next x.core) x

  abbrev Passes : Flow → Type 0
  Passes f = Skips (after_flow f x)

  -- ---- the program's flow
  jump-skips : (taken : Bool) (z : ℤ) → Passes (flow (jumped taken z x.core) x.entries)
  unfolding jumped
  jump-skips true z h = absurd (true≢false h)
  jump-skips false z h = absurd (true≢false h)

  call-skips : (z : ℤ) → Passes (called z x.core x.entries)
  unfolding called
  call-skips z = either Passes (leb 8 x.core.depth) _ _ (λ _ _. refl) (λ _ h. absurd (true≢false h))

  return-skips : Passes (returned x.core x.entries)
  unfolding returned
  return-skips = either Passes (eqb x.core.depth 0) _ _ (λ _ _. refl) (λ _ h. absurd (true≢false h))

  wait-skips : (w : Waited) → Passes (flow (after_wait w x.core) x.entries)
  wait-skips Refused h = refl
  wait-skips Passed h = absurd (true≢false h)
  wait-skips TimedOut h = absurd (true≢false h)
  wait-skips (Holding w) h = absurd (true≢false h)

  waited-skips : (r : Command) → Passes (flow (waited_step r.kind r.value x.core x.values) x.entries)
  unfolding waited_step
  waited-skips r = wait-skips (waited r.kind r.value x.core.accumulator x.values x.core.wait)

  halt-skips : Passes (halted x.core)
  unfolding halted
  halt-skips h = absurd (true≢false h)

  flow-skips : (r : Command) → Passes (flowed r x.core x.entries x.values)
  flow-skips r =
      flows.by-command r x.core x.entries x.values Passes
      (record {
        jc = λ taken _. jump-skips taken r.value.v;
        ja = λ _. jump-skips true r.value.v;
        csub = λ _. call-skips r.value.v;
        rsub = λ _. return-skips;
        wait = λ _. waited-skips r;
        stop = halt-skips;
      })

  -- ---- every command
  work-skips : (r : Command) → Skips (after_work (worked r x.core x.values x.outputs x.store) x)
  unfolding worked
  work-skips r h =
      ap (λ (y : State). state (next y.core) x.entries y.values y.outputs y.store)
      (applied-refused x (decided r x.core x.values) h)

  carried-skips : (p : Pins) (r : Command) → Skips (carried r p x)
  carried-skips p r =
      steps.by-carried p x Skips r
      (record { flow = flow-skips r; reading = λ _ h. absurd (true≢false h); work = λ _. work-skips r })

  obeyed-skips : (p : Pins) (r : Command) → is_unknown (obeyed r p x).status ≡ false → Skips (obeyed r p x)
  unfolding obeyed
  obeyed-skips p r =
      either (λ (y : After). is_unknown y.status ≡ false → Skips y) (is_unknown (judged r)) _ _
      (λ e f. absurd (true≢false (sym e ∙ f)))
      (λ _ _. either Skips (is_done (judged r)) _ _ (λ _. carried-skips p r) (λ _ _. refl))

is-unknown : (s : Status) → is_unknown s ≡ true → s ≡ Unknown
is-unknown =
    by-status (λ s. is_unknown s ≡ true → s ≡ Unknown) no no no (λ _. refl) no no no no
  where
    no : {A : Type 0} → false ≡ true → A
    no e = absurd (true≢false (sym e))

not_so : (b : Bool) → (b ≡ true → ⊥) → b ≡ false
not_so true n = absurd (n refl)
not_so false n = refl

module _ (program : List ℕ) (p : Pins) (x : State) where
  abbrev r : Command
  r = record_at program x.core.address

  inside : x.core.address < 1024 → step program p x ≡ obeyed r p x
  unfolding step
  inside l = simp (lt-leb 1024 x.core.address l)

  one_up : x.core.address < 1024 → only (next x.core) x ≡ only (moved (x.core.address + 1) x.core) x
  one_up l = simp (lt-ltb x.core.address 1024 l)

  pub refused_step : x.core.address < 1024 → ((step program p x).status ≡ Done → ⊥) → ((step program p x).status ≡ Unknown → ⊥)
      → (step program p x).state ≡ only (moved (x.core.address + 1) x.core) x
  refused_step l d u =
      let e = inside l in
      let s = (obeyed r p x).status in
      let q = ap (λ (y : After). y.status) e in
      ap (λ (y : After). y.state) e
      ∙ obeyed-skips x p r (not_so (is_unknown s) (λ t. u (q ∙ is-unknown s t))) (not_so (is_done s) (λ t. d (q ∙ is-done s t)))
      ∙ one_up l

  pub outside_step : 1024 ≤ x.core.address → step program p x ≡ after Value (only (stopped x.core) x)
  unfolding step
  outside_step l = simp (le-leb 1024 x.core.address l)

  pub unknown_step : x.core.address < 1024 → judged r ≡ Unknown → step program p x ≡ after Unknown (only (stopped x.core) x)
  unfolding obeyed
  unknown_step l u = inside l ∙ (rw u refl)
