-- Demand 3 over rows of events of the C door. Assumes nothing.
use Prim.Native.Nat.{ℕ, ◌<◌}
use native.Mathlib.Omega.{arith}
use mathlib.Core.Path.{◌≡◌, refl, sym, ap, subst, ◌∙◌}
use mathlib.Core.Bool.{Bool, true, false, false≢true}
use mathlib.Core.List.{List, [], ◌∷◌}
use lib.Dec.{eqb}
use lib.ListN.{length}
use Rattle.std.proofs.Common.{Ok, Err}
use borrow.Author.Tests.{eqb-true, eq-eqb}
use Rattle.words.proofs.Bools.{each}
use Rattle.status.specs.Status.{number_of}
use Rattle.status.proofs.Statuses.{is-done, number-done}
use Rattle.store.specs.Store.{is_parameter_store}
use Rattle.rules.specs.Step.{State}
use Rattle.rules.specs.Steps.{pins_of}
use Rattle.rules.specs.Events.{powered_up}
use Rattle.rules.specs.Datagram.{lent}
use Rattle.leading.specs.Laws as leading
use Rattle.leading.proofs.Ways as ways
use Rattle.checking.specs.Check as checking
use Rattle.checking.specs.Check.{Verdict, Passed}
use Rattle.checking.specs.declared.Fault.TheVariants.{Length, Bad}
use Rattle.numbered.specs.Check.{Checks}
use Rattle.numbered.specs.declared.Checked.{Checked}
use Rattle.safety.specs.Events.{World, world, after, after_all, begins_program}
use Rattle.safety.specs.Events as trace
use Rattle.safety.specs.Safety.{Fine, Safety}
use Rattle.safety.proofs.Safe as safe
use Rattle.safety.proofs.Begun.{event-begun}
use Rattle.reg_image.specs.Image.{registers_of}
use Rattle.reg_range.specs.Range.{stands}
use Rattle.board_events.specs.Events.{power_status}
use Rattle.law_rows.specs.Rows.{PowersUp}
use Rattle.law_rows.specs.Rows as rows
use Rattle.law_rows.specs.Laws as row_laws
use Rattle.law_rows.proofs.Rules as row-rules
use Rattle.law_safety.specs.Events.{Event, Happens, begins, Quiet, MakesStep}
use Rattle.law_safety.specs.Events as door
use Rattle.law_safety.specs.Laws.{Begun, Laws}
use Rattle.law_safety.proofs.Mirror.{event_of, rowed, power-same, same_after, same-another, same_step, same-obeys}

the-rows : row_laws.Laws
the-rows = row-rules.laws

the-safety : Safety
the-safety = safe.safety

-- ---- a check that answers 100 passed
the_ways : leading.Laws
the_ways = ways.laws

right : (program : List ℕ) (v : Verdict) → checking.Right program v → (checking.answer_of v).number ≡ 100 → checking.Right program Passed
right program (Ok _) r e = r
right program (Err Length) r e = absurd (omega (arith, e))
right program (Err (Bad p s)) r e =
    absurd ((the_ways.bad_status program p s r.1.bad).1 (is-done s (sym (number-done s) ∙ eq-eqb (number_of s) 100 e)))

check-passed : (program : List ℕ) (c : Checked) → Checks program c → c.status ≡ 100
    → checking.Checked program Passed (checking.answer_of Passed)
check-passed program c x e = (right program x.verdict x.right (sym (ap (λ (d : Checked). d.status) x.numbers) ∙ e), refl)

-- ---- a row of quiet events, as demand 3 has it
record Mirrored (l p j o : List ℕ) : Type 0 where
  events : List trace.Event
  quiet : trace.Quiet (world p (registers_of l)) events
  ends : after_all (world p (registers_of l)) events ≡ world o (registers_of j)
  stands : stands j ≡ true

mirrored : (l p j o : List ℕ) → stands l ≡ true → Quiet l p j o → Mirrored l p j o
mirrored l p j o h door.none = record { events = []; quiet = trace.none; ends = refl; stands = h }
mirrored l p j o h (door.also {e} {k = k} {q = q} {n = n} size x kept named rest) =
    let m = mirrored k q j o (the-rows.stands_on l k size h (rowed x)) rest in
    let a = same_after l h x in
    record {
      events = event_of e ∷ m.events;
      quiet = trace.also (sym (ap (λ (w : World). w.program) a) ∙ kept) (same-another l h x ∙ named)
          (subst (λ (w : World). trace.Quiet w m.events) a m.quiet);
      ends = sym (ap (λ (w : World). after_all w m.events) a) ∙ m.ends;
      stands = m.stands;
    }

-- ---- an event that begins the program
record Began (e : Event) (l p k q : List ℕ) : Type 0 where
  begins : begins_program (world p (registers_of l)) (event_of e) ≡ true
  leaves : world q (registers_of k) ≡ after (world p (registers_of l)) (event_of e)
  stands : stands k ≡ true

power-done : (cells l : List ℕ) (n : ℕ) (k : List ℕ) → PowersUp cells l k n → eqb n 100 ≡ true
    → eqb (powered_up cells (registers_of l)).status 100 ≡ true
unfolding power_status powered_up
power-done cells l n k t e = by (is_parameter_store cells) refl
  where
    by : (b : Bool) → is_parameter_store cells ≡ b → eqb (powered_up cells (registers_of l)).status 100 ≡ true
    by true f = rw f refl
    by false f = let q : n ≡ 20 = rw f at t.answers in absurd (omega (arith, q, eqb-true n 100 e))

began : {e : Event} {l p k q : List ℕ} {n : ℕ} → length l ≡ 137 → Happens e l p n k q → begins e l n ≡ true → Began e l p k q
unfolding begins begins_program after event_of
began {l = l} size (door.powers_up {cells} {p = p} {k = k} {n = n} t) b =
    record {
      begins = power-done cells l n k t b;
      leaves = ap (world p) (power-same cells l k n t);
      stands = the-rows.stands_for_ever k (rows.since cells t (eqb-true n 100 b) rows.none);
    }
began size (door.samples t) b = absurd (false≢true b)
began size (door.ticks t) b = absurd (false≢true b)
began {l = l} size (door.answers {bytes} {m} {b = b'} {p = p} {k = k} {q = q} {n = n} u v a) b =
    let t = each (eqb n 100) _ b in
    let h = (each (lent p m b') (stands l) (row-rules.done-open bytes l p m b' n k q _ _ a (eqb-true n 100 t.0))).1 in
    record {
      begins = same-obeys l h trace.begins_by a ∙ b;
      leaves = same_after l h (door.answers u v a);
      stands = the-rows.stands_on l k size h (rowed (door.answers u v a));
    }
began size (door.runs v a) b = absurd (false≢true b)

-- ---- the records stay
row-records : {l p j o : List ℕ} → Quiet l p j o → o ≡ p
row-records door.none = refl
row-records (door.also size x kept named rest) = row-records rest ∙ kept

module _ (program j o : List ℕ) (b : Begun program j o) where
  abbrev first : World
  first = world program (registers_of b.image)

  checked : checking.Checked program Passed (checking.answer_of Passed)
  checked = check-passed program b.verdict b.checked b.passed

  start : Began b.event b.image program b.left b.records
  start = began b.size b.happened b.began

  row : Mirrored b.left b.records j o
  row = mirrored b.left b.records j o start.stands b.quiet

  quiet : trace.Quiet (after first (event_of b.event)) row.events
  quiet = subst (λ (w : World). trace.Quiet w row.events) start.leaves row.quiet

  ends : after_all (after first (event_of b.event)) row.events ≡ world o (registers_of j)
  ends = sym (ap (λ (w : World). after_all w row.events) start.leaves) ∙ row.ends

  steps : (x : State) → MakesStep j o x → Fine program (pins_of (registers_of j)) x
  steps x m =
      let s = same_step j row.stands m in
      subst (λ (w : World). Fine program (pins_of w.registers) x) ends
      (the-safety.steps first (event_of b.event) row.events s.event x checked start.begins quiet
      (subst (λ (w : World). trace.MakesStep w s.event x) (sym ends) s.makes))

  inside : (registers_of j).core.address < 1024
  inside =
      subst (λ (w : World). w.registers.core.address < 1024) ends
      (the-safety.inside first (event_of b.event) row.events checked start.begins quiet)

  records : o ≡ program
  records =
      row-records b.quiet
      ∙ ap (λ (w : World). w.program) start.leaves
      ∙ (event-begun first (event_of b.event) start.begins).records

pub laws : Laws
laws = record { steps = steps; inside = inside; records = records; in-range = λ program j o b. (row program j o b).stands }
