-- A step of a passed program: it stands where the program may stand, and its refusals are listed. Assumes nothing.
use Prim.Native.Nat.{ℕ, zero, suc, ◌<◌}
use native.Mathlib.Omega.{arith}
use mathlib.Core.Path.{◌≡◌, refl, sym, ap, ◌∙◌, subst}
use mathlib.Core.Bool.{Bool, true, false, true≢false, false≢true, ◌||◌}
use mathlib.Core.List.{List}
use lib.Dec.{eqb}
use borrow.Author.Tests.{eqb-true, eqb-false, ne_eqb, lt-leb}
use Rattle.words.specs.Word.{pick}
use Rattle.words.proofs.Bools.{or_else}
use Rattle.wire.specs.declared.Command.{Command}
use Rattle.store.specs.Store.{record_at}
use Rattle.registers.specs.Registers.{next_address}
use Rattle.registers.specs.declared.Core.{Core}
use Rattle.waiting.specs.Waiting.{waited, Waited, Refused, Passed, TimedOut, Holding}
use Rattle.status.specs.Status.{is_done, is_unknown}
use Rattle.status.specs.declared.Status.{Status}
use Rattle.status.specs.declared.Status.TheVariants.{Done}
use Rattle.points.specs.Reach.{Safe}
use Rattle.judge.specs.Judge.{judged, is_flow}
use Rattle.rules.specs.Effects.{changed, Effect}
use Rattle.rules.specs.Effects as effect
use Rattle.rules.specs.Deciding.{decided, worked}
use Rattle.rules.specs.Flow.{Flow, flow, jumped, called, returned, halted, after_wait, waited_step, flowed}
use Rattle.rules.specs.Flow as flow
use Rattle.rules.proofs.FlowCases.{by-command}
use Rattle.rules.specs.Step.{State, Pins, After, after_work, carried, obeyed, step}
use Rattle.rules.proofs.StepCases.{by-carried}
use Rattle.rules.specs.Run.{Progress, advanced}
use Rattle.rules.specs.RunLaws.{walked}
use Rattle.leading.specs.Leading.{way_at}
use Rattle.safety.specs.Listed.{by_value, by_lock, Listed}
use Rattle.safety.specs.Safety.{turns, Goes, Fine}
use Rattle.safety.proofs.Going.{carried-goes}
use Rattle.safety.proofs.Refusals.{is_refused, wait-value, decided-listed, waited-listed}
use Rattle.safety.proofs.Stands as stands
use Rattle.safety.proofs.Stands.{Stands, through, depth_low, goes_on, room, calls, entry, returns}

-- what a step leaves of the program's place
abbrev pub Standing : List ℕ → State → Type 0
Standing program x = Stands program x.core.address x.core.depth x.entries

record Good (program : List ℕ) (r : Command) (y : After) : Type 0 where
  stands : Standing program y.state
  listed : Listed r y.status

-- ---- no effect moves the program
pub place_kept : (P : ℕ → ℕ → Type 0) (e : Effect) (c : Core) → P c.address c.depth → P (changed e c).address (changed e c).depth
place_kept P (effect.Refused s) c h = h
place_kept P (effect.Turn order velocity) c h = h
place_kept P (effect.Move w) c h = h
place_kept P (effect.Set place w) c h = h
place_kept P (effect.Global place w) c h = h
place_kept P (effect.Store place) c h = h
place_kept P (effect.Restore place) c h = h
place_kept P (effect.Output port bit) c h = h
place_kept P (effect.Numbers a x) c h = h
place_kept P (effect.Last k) c h = h
place_kept P (effect.Clear f) c h = h

-- ---- a command that is none of the program's flow
neither : (b x : Bool) → pick b true x ≡ false → (b ≡ false) × (x ≡ false)
neither true x e = absurd (true≢false e)
neither false x e = (refl, e)

record Plain (n : ℕ) : Type 0 where
  no-ja : eqb n 22 ≡ false
  no-rsub : eqb n 24 ≡ false
  no_stop : eqb n 28 ≡ false

plain : (n : ℕ) → is_flow n ≡ false → Plain n
unfolding is_flow
plain n h =
    let a = neither (eqb n 21) _ h in
    let b = neither (eqb n 22) _ a.1 in
    let c = neither (eqb n 23) _ b.1 in
    let d = neither (eqb n 24) _ c.1 in
    let e = neither (eqb n 27) _ d.1 in
    record { no-ja = b.0; no-rsub = d.0; no_stop = e.1 }

-- ---- what is listed is known, and no jump, call or return is on the list
known : (r : Command) {t : Status} → Listed r t → is_unknown t ≡ false
known r Listed.carried-out = refl
known r (Listed.by-value b) = refl
known r (Listed.by-lock b) = refl

in_turns : (n : ℕ) → turns n ≡ true → (20 < n) × (n < 25)
in_turns n h =
    or_else (eqb n 21 || eqb n 22 || eqb n 23) (eqb n 24) h
    (λ u. or_else (eqb n 21 || eqb n 22) (eqb n 23) u
    (λ v. or_else (eqb n 21) (eqb n 22) v (at-number 21 (omega arith) (omega arith)) (at-number 22 (omega arith) (omega arith)))
    (at-number 23 (omega arith) (omega arith)))
    (at-number 24 (omega arith) (omega arith))
  where
    at-number : (k : ℕ) → 20 < k → k < 25 → eqb n k ≡ true → (20 < n) × (n < 25)
    at-number k l m e = let q = eqb-true n k e in (omega (arith, q, l), omega (arith, q, m))

module _ (r : Command) (h : turns r.number ≡ true) where
  differs : (k : ℕ) → (20 < k → k < 25 → ⊥) → eqb r.number k ≡ false
  differs k d = ne_eqb r.number k (λ e. let t = in_turns r.number h in d (omega (arith, e, t.0)) (omega (arith, e, t.1)))

  no_value : by_value r ≡ false
  unfolding by_value
  no_value =
      simp (
        differs 1 (λ l m. omega (arith, l)),
        differs 2 (λ l m. omega (arith, l)),
        differs 4 (λ l m. omega (arith, l)),
        differs 34 (λ l m. omega (arith, m)),
        differs 35 (λ l m. omega (arith, m)),
        differs 33 (λ l m. omega (arith, m)),
        differs 27 (λ l m. omega (arith, m)),
      )

  no-lock : by_lock r ≡ false
  unfolding by_lock
  no-lock =
      simp (
        differs 7 (λ l m. omega (arith, l)),
        differs 11 (λ l m. omega (arith, l)),
        differs 9 (λ l m. omega (arith, l)),
        differs 35 (λ l m. omega (arith, m)),
      )

  turned : {t : Status} → Listed r t → t ≡ Done
  turned Listed.carried-out = refl
  turned (Listed.by-value b) = absurd (true≢false (sym b ∙ no_value))
  turned (Listed.by-lock b) = absurd (true≢false (sym b ∙ no-lock))

module _ (program : List ℕ) (safe : Safe (way_at program)) (x : State) (s : Standing program x) where
  abbrev c : Core
  c = x.core

  abbrev r : Command
  r = record_at program c.address

  abbrev a : ℕ
  a = c.address

  abbrev Moved : Flow → Type 0
  Moved f = Stands program f.core.address f.core.depth f.entries × Listed r f.status

  judged-done : is_done (judged r) ≡ true
  judged-done = ap is_done (through program safe a c.depth x.entries s).judged

  -- to the next record, from a command whose number is none of 22, 24 and 28
  on-from : (k : ℕ) → r.number ≡ k → eqb k 22 ≡ false → eqb k 28 ≡ false → eqb k 24 ≡ false → Stands program (next_address a) c.depth x.entries
  on-from k q f g h =
      goes_on program safe a c.depth x.entries s
      (ap (λ n. eqb n 22) q ∙ f) (ap (λ n. eqb n 28) q ∙ g) (ap (λ n. eqb n 24) q ∙ h)

  -- ---- the program's flow
  jc-moved : (b : Bool) → r.number ≡ 21 → Moved (flow.flow (jumped b r.value.v c) x.entries)
  unfolding jumped
  jc-moved true q = (stands.jumps program safe a c.depth x.entries s q, Listed.carried-out)
  jc-moved false q = (on-from 21 q refl refl refl, Listed.carried-out)

  ja-moved : r.number ≡ 22 → Moved (flow.flow (jumped true r.value.v c) x.entries)
  unfolding jumped
  ja-moved q = (stands.jump program safe a c.depth x.entries s q, Listed.carried-out)

  call-moved : r.number ≡ 23 → Moved (called r.value.v c x.entries)
  unfolding called
  call-moved q =
      simp (lt-leb 8 c.depth (room program safe a c.depth x.entries s q))
      (calls program safe a c.depth x.entries s q, Listed.carried-out)

  return-moved : r.number ≡ 24 → Moved (returned c x.entries)
  unfolding returned
  return-moved q =
      simp (entry program safe a c.depth x.entries s q)
      (returns program safe a c.depth x.entries s q, Listed.carried-out)

  wait-moved : r.number ≡ 27 → (w : Waited) → (is_refused w ≡ true → by_value r ≡ true) → Moved (flow.flow (after_wait w c) x.entries)
  wait-moved q Refused b = (on-from 27 q refl refl refl, Listed.by-value (b refl))
  wait-moved q Passed b = (on-from 27 q refl refl refl, Listed.carried-out)
  wait-moved q TimedOut b = (on-from 27 q refl refl refl, Listed.carried-out)
  wait-moved q (Holding w) b = (s, Listed.carried-out)

  waited-moved : r.number ≡ 27 → Moved (flow.flow (waited_step r.kind r.value c x.values) x.entries)
  unfolding waited_step
  waited-moved q =
      wait-moved q (waited r.kind r.value c.accumulator x.values c.wait)
      (waited-listed r c.accumulator x.values c.wait q (wait-value r judged-done q))

  halt-moved : Moved (halted c)
  unfolding halted
  halt-moved = (stands.begun program, Listed.carried-out)

  flow-moved : Moved (flowed r c x.entries x.values)
  flow-moved =
      by-command r c x.entries x.values Moved
      (record { jc = jc-moved; ja = ja-moved; csub = call-moved; rsub = return-moved; wait = waited-moved; stop = halt-moved })

  -- ---- a step
  work-good : Plain r.number → Good program r (after_work (worked r c x.values x.outputs x.store) x)
  unfolding worked
  work-good p =
      record {
        stands = place_kept (λ b d. Stands program (next_address b) d x.entries) (decided r c x.values) c
            (goes_on program safe a c.depth x.entries s p.no-ja p.no_stop p.no-rsub);
        listed = decided-listed r c x.values judged-done;
      }

  carried-good : (p : Pins) → Good program r (carried r p x)
  carried-good p =
      by-carried p x (Good program r) r
      (record {
        flow = let m = flow-moved in record { stands = m.0; listed = m.1 };
        reading = λ n.
            let f = plain r.number n in
            record {
              stands = goes_on program safe a c.depth x.entries s f.no-ja f.no_stop f.no-rsub;
              listed = Listed.carried-out;
            };
        work = λ n. work-good (plain r.number n);
      })

  step-carried : (p : Pins) → step program p x ≡ carried r p x
  unfolding step obeyed
  step-carried p =
      let t = through program safe a c.depth x.entries s in
      simp (lt-leb 1024 a t.inside, t.judged)

  step-good : (p : Pins) → Good program r (step program p x)
  step-good p = subst (Good program r) (sym (step-carried p)) (carried-good p)

  pub step-stands : (p : Pins) → Standing program (step program p x).state
  step-stands p = (step-good p).stands

  step-goes : (p : Pins) → Goes r x (step program p x).state
  step-goes p =
      let e = x.entries in
      subst (λ y. Goes r x y.state) (sym (step-carried p))
      (carried-goes r judged-done p x (through program safe a c.depth e s).inside (depth_low program safe a c.depth e s)
      (room program safe a c.depth e s)
      (λ q. let z = eqb-false c.depth 0 (entry program safe a c.depth e s q) in omega (arith, z)))

  pub step-fine : (p : Pins) → Fine program p x
  step-fine p =
      let g = (step-good p).listed in
      record {
        inside = (through program safe a c.depth x.entries s).inside;
        known = λ e. false≢true (sym (known r g) ∙ ap is_unknown e);
        obeyed = λ t. turned r t g;
        goes = step-goes p;
        listed = g;
      }

-- ---- so many steps
pub walked-stands : (program : List ℕ) → Safe (way_at program) → (p : Pins) (j : ℕ) (x : Progress) → Standing program x.state
    → Standing program (walked program p j x).state
unfolding walked
walked-stands program safe p zero x s = s
walked-stands program safe p (suc j) x s = walked-stands program safe p j (advanced program p x) (step-stands program safe x.state s p)
