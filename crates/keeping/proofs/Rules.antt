-- The laws of steps, runs and direct commands. Assumes nothing.
use Prim.Native.Nat.{ℕ, zero, suc, ◌+◌, ◌*◌}
use native.Mathlib.Omega.{arith}
use mathlib.Core.Path.{◌≡◌, refl}
use mathlib.Core.Bool.{Bool, true, false}
use mathlib.Core.List.{List}
use lib.Dec.{leb}
use lib.IntN.{ℤ}
use lib.ListN.{length}
use mir.Syntax.{w32}
use mir.Val.{SFits}
use Rattle.words.specs.Laws.{AllBytes}
use Rattle.words.proofs.Bools.{picked}
use Rattle.words.proofs.Trips.{read_fits}
use Rattle.wire.specs.Frame.{command_at}
use Rattle.wire.specs.declared.Command.{Command}
use Rattle.store.specs.Store.{record_at, zero_record}
use Rattle.registers.specs.Registers.{next, stopped}
use Rattle.registers.specs.Range.{core_in_range}
use Rattle.status.specs.Status.{is_done}
use Rattle.status.specs.declared.Status.{Status}
use Rattle.status.specs.declared.Status.TheVariants.{Done, Unavailable}
use Rattle.judge.specs.Judge.{judged}
use Rattle.rules.specs.Effects.{Work}
use Rattle.rules.specs.Deciding.{decided, worked}
use Rattle.rules.specs.Step.{State, Pins, After, only, loaded, step}
use Rattle.rules.proofs.StepCases.{by-carried, by-obeyed, by-step}
use Rattle.rules.specs.Run.{Progress, advanced, goes_on, run}
use Rattle.rules.specs.Direct.{Direct, directed}
use Rattle.rules.proofs.DirectCases.{by-command}
use Rattle.keeping.specs.Sound.{Sound}
use Rattle.keeping.specs.Laws.{Laws, left}
use Rattle.keeping.proofs.Cores.{next-in-range, stopped-in-range}
use Rattle.keeping.proofs.Flows.{flowed-kept}
use Rattle.keeping.proofs.Applied.{leaves, with-core, applied-sound, applied-store, applied-refused}
use Rattle.keeping.proofs.Decided.{decided-good}
use Rattle.keeping.proofs.Held.{step_held}

-- ---- the value of a record is a word
record-fits : (p : List ℕ) (a : ℕ) → AllBytes p → SFits w32 (record_at p a).value.v
unfolding record_at
record-fits p a b =
    picked (λ (c : Command). SFits w32 c.value.v) (leb (a * 7 + 7) (length p)) (command_at p (a * 7)) zero_record
    (λ _. read_fits p (a * 7 + 3) b) (record { sfits = omega arith })

-- ---- work
module _ (c : Command) (x : State) where
  abbrev work : Work
  work = worked c x.core x.values x.outputs x.store

  worked-sound : is_done (judged c) ≡ true → SFits w32 c.value.v → Sound x → Sound (leaves work x.entries)
  unfolding worked
  worked-sound h f s = applied-sound x s (decided c x.core x.values) (decided-good c x.core x.values h f s.core)

  worked-store : length work.store ≡ length x.store
  unfolding worked
  worked-store = applied-store x.core x.values x.outputs x.store (decided c x.core x.values)

  worked-refused : is_done work.status ≡ false → leaves work x.entries ≡ x
  unfolding worked
  worked-refused = applied-refused x (decided c x.core x.values)

  -- ---- direct commands
  module _ (digital : List ℕ) (analog : List ℤ) where
    abbrev here : Direct
    here = directed c x.core x.values x.outputs digital analog x.store

    -- what holds with all as it was, and of the command's work once the judge has let it through, holds of what the command leaves
    by-direct : (P : Status → State → Type 0) → ((s : Status) → P s x)
        → (is_done (judged c) ≡ true → P work.status (leaves work x.entries)) → P here.status (left here x.entries)
    by-direct P same works =
        by-command c x.core x.values x.outputs digital analog x.store (λ d. P d.status (left d x.entries))
        (record { flow = same Unavailable; not_through = λ _. same (judged c); reading = λ _. same Done; done = λ h _. works h; failed = λ h _. works h })

    direct_sound : SFits w32 c.value.v → Sound x → Sound (left here x.entries)
    direct_sound f s = by-direct (λ _. Sound) (λ _. s) (λ h. worked-sound h f s)

    direct_store : length here.store ≡ length x.store
    direct_store = by-direct (λ _ y. length y.store ≡ length x.store) (λ _. refl) (λ _. worked-store)

    direct_refused : is_done here.status ≡ false → left here x.entries ≡ x
    direct_refused = by-direct (λ s y. is_done s ≡ false → y ≡ x) (λ _ _. refl) (λ _. worked-refused)

-- ---- steps
goes_on_lem : (x : State) → Sound x → Sound (only (next x.core) x)
goes_on_lem x s = with-core x s (next x.core) x.store (next-in-range x.core s.core)

module _ (program : List ℕ) (p : Pins) where
  step_sound : (x : State) → AllBytes program → Sound x → Sound (step program p x).state
  unfolding core_in_range
  step_sound x b s =
      let r = record_at program x.core.address in
      let P : After → Type 0 = λ y. Sound y.state in
      let stop = with-core x s (stopped x.core) x.store (stopped-in-range x.core s.core) in
      let f = flowed-kept x.core s.core x.entries s.entries r x.values in
      by-step p x P program stop
      (by-obeyed p x P r stop (goes_on_lem x s)
      (λ h. by-carried p x P r
      (record {
        flow = record { core = f.core; entries = f.entries; values = s.values; size = s.size; outputs = s.outputs };
        reading = λ _. with-core x s (loaded r x.core x.values x.outputs p.digital p.analog) x.store (next-in-range x.core s.core);
        work = λ _. goes_on_lem (leaves (work r x) x.entries) (worked-sound r x h (record-fits program x.core.address b) s);
      })))

  step_store : (x : State) → length (step program p x).state.store ≡ length x.store
  step_store x =
      let r = record_at program x.core.address in
      let P : After → Type 0 = λ y. length y.state.store ≡ length x.store in
      by-step p x P program refl
      (by-obeyed p x P r refl refl (λ _. by-carried p x P r (record { flow = refl; reading = λ _. refl; work = λ _. worked-store r x })))

  run_sound : (alone : Bool) (n : ℕ) (x : Progress) → AllBytes program → Sound x.state → Sound (run alone program p n x).state
  unfolding run
  run_sound alone zero x b s = s
  run_sound alone (suc n) x b s =
      picked (λ (y : Progress). Sound y.state) (goes_on alone x) (run alone program p n (advanced program p x)) x
      (λ _. run_sound alone n (advanced program p x) b (step_sound x.state b s)) s

pub laws : Laws
laws =
    record {
      step_held = step_held;
      step_sound = step_sound;
      run_sound = λ alone program p. run_sound program p alone;
      direct_sound = λ c digital analog x. direct_sound c x digital analog;
      step_store = step_store;
      direct_store = λ c digital analog x. direct_store c x digital analog;
      direct_refused = λ c digital analog x. direct_refused c x digital analog;
    }
