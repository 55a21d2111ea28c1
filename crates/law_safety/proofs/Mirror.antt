-- What an event of the C door leaves is what the event of demand 3 leaves of the registers that the image stands for. Assumes nothing.
use Prim.Native.Nat.{ℕ, ◌<◌}
use mathlib.Core.Path.{◌≡◌, refl, sym, ap, subst, ◌∙◌}
use mathlib.Core.Bool.{Bool, true, false, ◌&&◌}
use mathlib.Core.List.{List}
use lib.Dec.{eqb}
use lib.IntN.{ℤ}
use Rattle.words.specs.Word.{pick}
use Rattle.wire.specs.declared.Command.{Command}
use Rattle.store.specs.Store.{is_parameter_store}
use Rattle.serial.specs.Serial.{taken_of}
use Rattle.sampling.specs.Sample.{sample_in_range}
use Rattle.rules.specs.Step.{State}
use Rattle.board.specs.declared.Registers.{Registers}
use Rattle.rules.specs.Events.{powered_up, sampled, ticked}
use Rattle.rules.specs.RunEvent as runs
use Rattle.replying.specs.Reply.{byte_of}
use Rattle.rules.specs.Datagram.{After, board, datagram}
use Rattle.safety.specs.Events.{world, after, carries}
use Rattle.safety.specs.Events as trace
use Rattle.reg_image.specs.Image.{registers_of}
use Rattle.reg_range.specs.Range.{stands}
use Rattle.board_events.specs.Standing.{Told, Leaving}
use Rattle.board_events.specs.Events.{tick_status, power_status, sample_of, sample_status}
use Rattle.board_datagrams.specs.Datagram.{Answers}
use Rattle.law_rows.specs.Rows.{PowersUp, Samples, Ticks}
use Rattle.law_rows.specs.Rows as rows
use Rattle.law_rows.proofs.Rules.{parts, same-datagram, same-run}
use Rattle.law_safety.specs.Events.{Event, Happens, obeys, runs_from_another, MakesStep}
use Rattle.law_safety.specs.Events as door

-- the event of demand 3
unfoldable pub event_of : Event → trace.Event
event_of (door.power-up cells) = trace.power-up cells
event_of (door.sample fields) = trace.sample (sample_of fields)
event_of door.tick = trace.tick
event_of (door.datagram bytes m b) = trace.datagram bytes m b
event_of (door.run budget m) = trace.run budget m

-- the event as a row of law_rows has it
pub rowed : {e : Event} {l p k q : List ℕ} {n : ℕ} → Happens e l p n k q → rows.Happens l k
rowed (door.powers_up {cells} t) = rows.power-up cells t
rowed (door.samples {fields} t) = rows.sample fields t
rowed (door.ticks t) = rows.tick t
rowed (door.answers u v a) = rows.datagram u v a
rowed (door.runs v a) = rows.run v a

-- ---- what is told is what the event of the registers leaves
told : (status : ℕ) (r : Registers) (l k : List ℕ) (n : ℕ) → Told status r l k n
    → registers_of k ≡ pick (eqb status 100) r (registers_of l)
told status r l k n t = by (eqb status 100) t.leaves
  where
    by : (b : Bool) → Leaving b r l k → registers_of k ≡ pick b r (registers_of l)
    by true x = x.of
    by false x = ap registers_of x

pub power-same : (cells l k : List ℕ) (n : ℕ) → PowersUp cells l k n → registers_of k ≡ (powered_up cells (registers_of l)).registers
unfolding power_status powered_up
power-same cells l k n t = by (is_parameter_store cells) refl
  where
    by : (b : Bool) → is_parameter_store cells ≡ b → registers_of k ≡ (powered_up cells (registers_of l)).registers
    by true e = rw e (rw e at (told _ _ l k n t))
    by false e = rw e (rw e at (told _ _ l k n t))

module _ (l : List ℕ) (h : stands l ≡ true) where
  tick-same : (k : List ℕ) (n : ℕ) → Ticks l k n → registers_of k ≡ (ticked (registers_of l)).registers
  unfolding tick_status ticked
  tick-same k n t = rw (parts l h).1 (rw h at (told _ _ l k n t))

  sample-same : (fields : List ℤ) (k : List ℕ) (n : ℕ) → Samples fields l k n
      → registers_of k ≡ (sampled (sample_of fields) (registers_of l)).registers
  unfolding sample_status sampled
  sample-same fields k n t = by (sample_in_range (sample_of fields)) refl
    where
      by : (b : Bool) → sample_in_range (sample_of fields) ≡ b → registers_of k ≡ (sampled (sample_of fields) (registers_of l)).registers
      by true e = rw ((parts l h).1, e) (rw (h, e) at (told _ _ l k n t))
      by false e = rw ((parts l h).1, e) (rw (h, e) at (told _ _ l k n t))

  -- ---- every event
  pub same_after : {e : Event} {p k q : List ℕ} {n : ℕ} → Happens e l p n k q
      → world q (registers_of k) ≡ after (world p (registers_of l)) (event_of e)
  unfolding after event_of
  same_after (door.powers_up {cells} {p = p} {k = k} {n = n} t) = ap (world p) (power-same cells l k n t)
  same_after (door.samples {fields} {p = p} {k = k} {n = n} t) = ap (world p) (sample-same fields k n t)
  same_after (door.ticks {p = p} {k = k} {n = n} t) = ap (world p) (tick-same k n t)
  same_after (door.answers {bytes} {m} {b} {p = p} u v a) =
      let d = same-datagram l h bytes p m b in
      λ i. world ((a.program ∙ ap (λ (y : After). y.board.program) d) i) ((a.makes ∙ ap (λ (y : After). y.board.registers) d) i)
  same_after (door.runs {m} {p = p} {budget = budget} v a) =
      ap (world p) (a.makes ∙ ap (λ (y : runs.Answer). y.registers) (same-run l h p budget m))

  -- a datagram's number
  same-status : {bytes m b p k q m' b' : List ℕ} {n : ℕ} → Answers bytes l p m b n k q m' b'
      → n ≡ (datagram bytes (board (registers_of l) p m b)).status
  same-status {bytes} {m} {b} {p} a = a.status ∙ ap (λ (y : After). y.status) (same-datagram l h bytes p m b)

  pub same-obeys : (of : Command → Bool) {bytes m b p k q m' b' : List ℕ} {n : ℕ} → Answers bytes l p m b n k q m' b'
      → trace.obeys of (world p (registers_of l)) bytes m b ≡ obeys of bytes l n
  same-obeys of {bytes} a = sym (ap (λ (s : ℕ). eqb s 100 && carries of (taken_of (byte_of (registers_of l).values 66) bytes)) (same-status a))

  pub same-another : {e : Event} {p k q : List ℕ} {n : ℕ} → Happens e l p n k q
      → trace.runs_from_another (world p (registers_of l)) (event_of e) ≡ runs_from_another e l n
  unfolding trace.runs_from_another runs_from_another event_of
  same-another (door.powers_up t) = refl
  same-another (door.samples t) = refl
  same-another (door.ticks t) = refl
  same-another (door.answers u v a) = same-obeys trace.from_another a
  same-another (door.runs v a) = refl

  -- ---- the steps of an event
  pub record Made (p : List ℕ) (x : State) : Type 0 where
    pub event : trace.Event
    pub makes : trace.MakesStep (world p (registers_of l)) event x

  pub same_step : {p : List ℕ} {x : State} → MakesStep l p x → Made p x
  same_step {p} (door.in_run {m} {budget = budget} {r = r} a j s) =
      record {
        event = trace.run budget m;
        makes = trace.in_run j (subst (λ (n : ℕ). j < n) (a.steps ∙ ap (λ (y : runs.Answer). y.steps) (same-run l h p budget m)) s);
      }
  same_step {p} (door.alone {bytes} {m} {b} a o) =
      record { event = trace.datagram bytes m b; makes = trace.alone (same-obeys (λ c. eqb c.number 130) a ∙ o) }
