-- A command with 0 in the fields that it does not use does the same. Assumes nothing.
use Prim.Native.Nat.{ℕ}
use mathlib.Core.Path.{◌≡◌, refl, ap, ◌∙◌}
use mathlib.Core.Bool.{Bool, true, false, not, true≢false, false≢true}
use mathlib.Core.List.{List}
use borrow.Author.Tests.{eqb-true}
use lib.Dec.{eqb, leb}
use lib.IntN.{ℤ}
use Rattle.words.specs.Word.{pick}
use Rattle.words.specs.declared.Word.{Word}
use Rattle.wire.specs.declared.Command.{Command}
use Rattle.registers.specs.Registers.{with_numbers, next}
use Rattle.registers.specs.declared.Core.{Core}
use Rattle.registers.specs.declared.Download.{Download}
use Rattle.settings.specs.Settings.{locked}
use Rattle.calculating.specs.Calculate.{calculated}
use Rattle.rules.specs.Numbers as numbers
use Rattle.status.specs.Status.{in_order, is_done}
use Rattle.status.specs.declared.Status.TheVariants.{Done}
use Rattle.fields.specs.Fields as fields
use Rattle.judge.specs.Judge.{judged, is_flow, is_reading}
use Rattle.rules.specs.Flow.{Flow, waited_step, flowed}
use Rattle.rules.specs.Reading.{read}
use Rattle.rules.specs.Effects.{Work, applied, Effect}
use Rattle.rules.specs.Deciding.{decided_by, decided, worked}
use Rattle.rules.specs.Step.{State, Pins, after, only, after_flow, after_work, carried, obeyed}
use Rattle.rules.specs.Direct as directing
use Rattle.rules.specs.Direct.{directed, changed}
use Rattle.rules.specs.Control as control
use Rattle.board.specs.declared.Registers.{Registers}
use Rattle.rules.specs.Controlling as controlling
use Rattle.ignoring.specs.Unused.{no_type, no_motor, no_value, no_control_type, no_control_value, used_type, used_motor, used_value, plain, plain_control, answers, control_answers}
use Rattle.ignoring.specs.Laws.{unanswered, silent, Laws}

-- ---- two picks by one test, as seen by a function
module _ {A B : Type 0} (f : A → B) where
  seen : (b : Bool) {x y z w : A} → (b ≡ true → f x ≡ f z) → (b ≡ false → f y ≡ f w) → f (pick b x y) ≡ f (pick b z w)
  seen true g h = g refl
  seen false g h = h refl

same : {A : Type 0} (b : Bool) {x y z w : A} → (b ≡ true → x ≡ z) → (b ≡ false → y ≡ w) → pick b x y ≡ pick b z w
same b g h = seen (λ a. a) b g h

-- by a test
tested : {A : Type 0} (b : Bool) → (b ≡ true → A) → (b ≡ false → A) → A
tested true g h = g refl
tested false g h = h refl

-- none of two tests holds, or the second does
none : (b c : Bool) → pick b true c ≡ false → (b ≡ false) × (c ≡ false)
none true c e = absurd (true≢false e)
none false c e = (refl, e)

-- ---- a field that a command uses stays
module _ (c : Command) {unused : Bool} where
  kind : unused ≡ false → used_type unused c ≡ c.kind
  unfolding used_type
  kind u = simp u

  motor : unused ≡ false → used_motor unused c ≡ c.motor
  unfolding used_motor
  motor u = simp u

  value : unused ≡ false → used_value unused c ≡ c.value
  unfolding used_value
  value u = simp u

-- what is known of a number
apart : (f : ℕ → Bool) (n k : ℕ) → eqb n k ≡ true → f k ≡ false → f n ≡ false
apart f n k q u = ap f (eqb-true n k q) ∙ u

-- ---- the three commands of which only some types use a field
module _ (c : Command) where
  wait-judged : eqb c.number 27 ≡ true → fields.wait (plain c) ≡ fields.wait c
  wait-judged q =
      let k = kind c (apart no_type c.number 27 q refl) in
      let v = value c (apart (no_value c.kind) c.number 27 q refl) in
      tested (eqb c.kind 0) (λ e. simp (k, v, e)) (λ e. simp (k, v, motor c (apart (no_motor c.kind) c.number 27 q e)))

  calc-judged : eqb c.number 19 ≡ true → fields.calc (plain c) ≡ fields.calc c
  calc-judged q =
      let k = kind c (apart no_type c.number 19 q refl) in
      tested (eqb c.kind 8) (λ e. simp (k, eqb-true c.kind 8 e)) (λ e. simp (k, value c (apart (no_value c.kind) c.number 19 q e)))

  calc-same : (accumulator x : Word) → eqb c.number 19 ≡ true
      → numbers.calc (plain c).kind (plain c).value accumulator x ≡ numbers.calc c.kind c.value accumulator x
  unfolding numbers.calc calculated
  calc-same accumulator x q =
      let k = kind c (apart no_type c.number 19 q refl) in
      tested (eqb c.kind 8) (λ e. simp (k, eqb-true c.kind 8 e)) (λ e. simp (k, value c (apart (no_value c.kind) c.number 19 q e)))

  run-judged : (downloading : Bool) → eqb c.number 129 ≡ true
      → in_order (not downloading) true (leb (plain_control c).kind 1) (control.begins (plain_control c).kind (plain_control c).value.v) true
      ≡ in_order (not downloading) true (leb c.kind 1) (control.begins c.kind c.value.v) true
  run-judged downloading q =
      let k = kind c (apart no_control_type c.number 129 q refl) in
      tested (eqb c.kind 0) (λ e. simp (k, e)) (λ e. simp (k, value c (apart (no_control_value c.kind) c.number 129 q e)))

  begun-same : (core : Core) (e : List ℕ) (d : Download) → eqb c.number 129 ≡ true
      → control.with (control.begun (plain_control c).kind (plain_control c).value.v core e) d ≡ control.with (control.begun c.kind c.value.v core e) d
  unfolding control.begun
  begun-same core e d q =
      let k = kind c (apart no_control_type c.number 129 q refl) in
      tested (eqb c.kind 0) (λ z. simp (k, z)) (λ z. simp (k, value c (apart (no_control_value c.kind) c.number 129 q z)))

-- ---- what the bytes decide
judged_same : (c : Command) → judged (plain c) ≡ judged c
unfolding judged fields.sap fields.sgp
judged_same c =
    let n = c.number in
    same (eqb n 1) (λ q. simp (motor c (apart (no_motor c.kind) n 1 q refl)))
    (λ _. (same (eqb n 2) (λ q. simp (motor c (apart (no_motor c.kind) n 2 q refl)))
    (λ _. (same (eqb n 3) (λ q. simp (motor c (apart (no_motor c.kind) n 3 q refl)))
    (λ _. (same (eqb n 4) (λ q. simp (kind c (apart no_type n 4 q refl), motor c (apart (no_motor c.kind) n 4 q refl)))
    (λ _. (same (eqb n 5) (λ q. simp (kind c (apart no_type n 5 q refl), motor c (apart (no_motor c.kind) n 5 q refl), value c (apart (no_value c.kind) n 5 q refl)))
    (λ _. (same (eqb n 6) (λ q. simp (kind c (apart no_type n 6 q refl), motor c (apart (no_motor c.kind) n 6 q refl)))
    (λ _. (same (eqb n 7) (λ q. simp (kind c (apart no_type n 7 q refl), motor c (apart (no_motor c.kind) n 7 q refl)))
    (λ _. (same (eqb n 8) (λ q. simp (kind c (apart no_type n 8 q refl), motor c (apart (no_motor c.kind) n 8 q refl)))
    (λ _. (same (eqb n 9) (λ q. simp (kind c (apart no_type n 9 q refl), motor c (apart (no_motor c.kind) n 9 q refl), value c (apart (no_value c.kind) n 9 q refl)))
    (λ _. (same (eqb n 10) (λ q. simp (kind c (apart no_type n 10 q refl), motor c (apart (no_motor c.kind) n 10 q refl)))
    (λ _. (same (eqb n 11) (λ q. simp (kind c (apart no_type n 11 q refl), motor c (apart (no_motor c.kind) n 11 q refl)))
    (λ _. (same (eqb n 12) (λ q. simp (kind c (apart no_type n 12 q refl), motor c (apart (no_motor c.kind) n 12 q refl)))
    (λ _. (same (eqb n 14) (λ q. simp (kind c (apart no_type n 14 q refl), motor c (apart (no_motor c.kind) n 14 q refl), value c (apart (no_value c.kind) n 14 q refl)))
    (λ _. (same (eqb n 15) (λ q. simp (kind c (apart no_type n 15 q refl), motor c (apart (no_motor c.kind) n 15 q refl)))
    (λ _. (same (eqb n 19) (calc-judged c)
    (λ _. (same (eqb n 20) (λ _. refl)
    (λ _. (same (eqb n 21) (λ q. simp (kind c (apart no_type n 21 q refl), value c (apart (no_value c.kind) n 21 q refl)))
    (λ _. (same (eqb n 22) (λ q. simp (value c (apart (no_value c.kind) n 22 q refl)))
    (λ _. (same (eqb n 23) (λ q. simp (value c (apart (no_value c.kind) n 23 q refl)))
    (λ _. (same (eqb n 24) (λ _. refl)
    (λ _. (same (eqb n 27) (wait-judged c)
    (λ _. (same (eqb n 28) (λ _. refl)
    (λ _. (same (eqb n 33) (λ q. simp (kind c (apart no_type n 33 q refl)))
    (λ _. (same (eqb n 34) (λ q. simp (kind c (apart no_type n 34 q refl), motor c (apart (no_motor c.kind) n 34 q refl)))
    (λ _. (same (eqb n 35) (λ q. simp (kind c (apart no_type n 35 q refl), motor c (apart (no_motor c.kind) n 35 q refl)))
    (λ _. (same (eqb n 36) (λ q. simp (kind c (apart no_type n 36 q refl)))
    (λ _. refl)))))))))))))))))))))))))))))))))))))))))))))))))))

-- ---- the program's flow, what is read, and what is decided
flowed-same : (c : Command) (core : Core) (e : List ℕ) (values : List ℤ) → flowed (plain c) core e values ≡ flowed c core e values
unfolding flowed waited_step
flowed-same c core e values =
    let n = c.number in
    same (eqb n 21) (λ q. simp (kind c (apart no_type n 21 q refl), value c (apart (no_value c.kind) n 21 q refl)))
    (λ _. (same (eqb n 22) (λ q. simp (value c (apart (no_value c.kind) n 22 q refl)))
    (λ _. (same (eqb n 23) (λ q. simp (value c (apart (no_value c.kind) n 23 q refl)))
    (λ _. (same (eqb n 24) (λ _. refl)
    (λ _. (same (eqb n 27) (λ q. simp (kind c (apart no_type n 27 q refl), value c (apart (no_value c.kind) n 27 q refl)))
    (λ _. refl)))))))))

read_same : (c : Command) (core : Core) (values : List ℤ) (outputs digital : List ℕ) (analog : List ℤ) → is_reading c.number ≡ true
    → read (plain c) core values outputs digital analog ≡ read c core values outputs digital analog
unfolding read is_reading
read_same c core values outputs digital analog h =
    let n = c.number in
    same (eqb n 6) (λ q. simp (kind c (apart no_type n 6 q refl)))
    (λ a. same (eqb n 10) (λ q. simp (kind c (apart no_type n 10 q refl), motor c (apart (no_motor c.kind) n 10 q refl)))
    (λ b. let q : eqb n 15 ≡ true = rw (a, b) at h in simp (kind c (apart no_type n 15 q refl), motor c (apart (no_motor c.kind) n 15 q refl))))

decided-same : (c : Command) (core : Core) (values : List ℤ) → is_flow c.number ≡ false → decided (plain c) core values ≡ decided c core values
unfolding decided_by is_flow
decided-same c core values h =
    let n = c.number in
    let a = none (eqb n 21) _ h in
    let b = none (eqb n 22) _ a.1 in
    let d = none (eqb n 23) _ b.1 in
    let e = none (eqb n 24) _ d.1 in
    let f = none (eqb n 27) _ e.1 in
    same (eqb n 1) (λ q. simp (value c (apart (no_value c.kind) n 1 q refl)))
    (λ ror. (same (eqb n 2) (λ q. simp (value c (apart (no_value c.kind) n 2 q refl)))
    (λ rol. (same (eqb n 3) (λ _. refl)
    (λ mst. (same (eqb n 4) (λ q. simp (kind c (apart no_type n 4 q refl), value c (apart (no_value c.kind) n 4 q refl)))
    (λ _. (same (eqb n 5) (λ q. simp (kind c (apart no_type n 5 q refl), value c (apart (no_value c.kind) n 5 q refl)))
    (λ _. (same (eqb n 7) (λ q. simp (kind c (apart no_type n 7 q refl)))
    (λ _. (same (eqb n 8) (λ q. simp (kind c (apart no_type n 8 q refl)))
    (λ _. (same (eqb n 9) (λ q. simp (kind c (apart no_type n 9 q refl), motor c (apart (no_motor c.kind) n 9 q refl), value c (apart (no_value c.kind) n 9 q refl)))
    (λ _. (same (eqb n 11) (λ q. simp (kind c (apart no_type n 11 q refl), motor c (apart (no_motor c.kind) n 11 q refl)))
    (λ _. (same (eqb n 12) (λ q. simp (kind c (apart no_type n 12 q refl), motor c (apart (no_motor c.kind) n 12 q refl)))
    (λ _. (same (eqb n 14) (λ q. simp (kind c (apart no_type n 14 q refl), value c (apart (no_value c.kind) n 14 q refl)))
    (λ _. (same (eqb n 19) (calc-same c core.accumulator core.x)
    (λ _. (same (eqb n 20) (λ q. simp (value c (apart (no_value c.kind) n 20 q refl)))
    (λ comp. (same (eqb n 33) (λ q. simp (kind c (apart no_type n 33 q refl)))
    (λ _. (same (eqb n 34) (λ q. simp (kind c (apart no_type n 34 q refl)))
    (λ _. (same (eqb n 35) (λ q. simp (kind c (apart no_type n 35 q refl), motor c (apart (no_motor c.kind) n 35 q refl)))
    (λ _. let u : no_type n ≡ false = simp (ror, rol, mst, comp, b.0, d.0, e.0, f.1) in simp (kind c u))))))))))))))))))))))))))))))))

worked_same : (c : Command) (core : Core) (values : List ℤ) (outputs store : List ℕ) → is_flow c.number ≡ false
    → worked (plain c) core values outputs store ≡ worked c core values outputs store
unfolding worked
worked_same c core values outputs store h = ap (λ (e : Effect). applied e core values outputs store) (decided-same c core values h)

-- ---- a step
carried_same : (c : Command) (p : Pins) (x : State) → carried (plain c) p x ≡ carried c p x
unfolding carried
carried_same c p x =
    same (is_flow c.number) (λ _. ap (λ (f : Flow). after_flow f x) (flowed-same c x.core x.entries x.values))
    (λ h. same (is_reading c.number)
    (λ r. ap (λ (w : Word). after Done (only (next (with_numbers w x.core.x x.core)) x)) (read_same c x.core x.values x.outputs p.digital p.analog r))
    (λ _. ap (λ (w : Work). after_work w x) (worked_same c x.core x.values x.outputs x.store h)))

step_same : (c : Command) (p : Pins) (x : State) → obeyed (plain c) p x ≡ obeyed c p x
unfolding obeyed
step_same c p x = simp (judged_same c, carried_same c p x)

-- ---- direct mode
changed-same : (c : Command) (core : Core) (values : List ℤ) (outputs store : List ℕ) → is_flow c.number ≡ false
    → unanswered (changed (plain c) core values outputs store) ≡ unanswered (changed c core values outputs store)
unfolding changed
changed-same c core values outputs store h =
    rw (worked_same c core values outputs store h)
    (seen unanswered (is_done (worked c core values outputs store).status) (λ _. refl) (λ _. refl))

direct_same : (c : Command) (core : Core) (values : List ℤ) (outputs digital : List ℕ) (analog : List ℤ) (store : List ℕ)
    → unanswered (directed (plain c) core values outputs digital analog store) ≡ unanswered (directed c core values outputs digital analog store)
unfolding directed
direct_same c core values outputs digital analog store =
    rw (judged_same c)
    (seen unanswered (is_flow c.number) (λ _. refl)
    (λ h. seen unanswered (is_done (judged c))
    (λ _. seen unanswered (is_reading c.number) (λ _. refl) (λ _. changed-same c core values outputs store h)) (λ _. refl)))

-- the value answered, where it is not the value sent
given : (c : Command) (core : Core) → answers c.number ≡ true → is_reading c.number ≡ false → directing.answer (plain c) core ≡ directing.answer c core
unfolding is_reading
given c core h r =
    let n = c.number in
    let a = none (eqb n 6) _ r in
    let b = none (eqb n 10) _ a.1 in
    same (eqb n 19) (λ _. refl) (λ d. same (eqb n 33) (λ _. refl) (λ e. absurd (false≢true (rw (a.0, b.0, b.1, d, e) at h))))

answered-same : (c : Command) (core : Core) (values : List ℤ) (outputs store : List ℕ) → is_flow c.number ≡ false → answers c.number ≡ true
    → is_reading c.number ≡ false → changed (plain c) core values outputs store ≡ changed c core values outputs store
unfolding changed
answered-same c core values outputs store h a r =
    simp (worked_same c core values outputs store h, given c (worked c core values outputs store).core a r)

answer_same : (c : Command) (core : Core) (values : List ℤ) (outputs digital : List ℕ) (analog : List ℤ) (store : List ℕ)
    → answers c.number ≡ true → directed (plain c) core values outputs digital analog store ≡ directed c core values outputs digital analog store
unfolding directed
answer_same c core values outputs digital analog store a =
    rw (judged_same c)
    (same (is_flow c.number) (λ _. refl)
    (λ h. same (is_done (judged c))
    (λ _. same (is_reading c.number)
    (λ r. ap (λ (w : Word). directing.direct (directing.answered Done w core) values outputs store) (read_same c core values outputs digital analog r))
    (λ r. answered-same c core values outputs store h a r)) (λ _. refl)))

-- ---- control commands
module _ (c : Command) where
  control-judged : (running downloading locked : Bool) → control.judged (plain_control c) running downloading locked ≡ control.judged c running downloading locked
  unfolding control.judged
  control-judged running downloading locked =
      let n = c.number in
      same (eqb n 128) (λ _. refl)
      (λ _. (same (eqb n 129) (run-judged c downloading)
      (λ _. (same (eqb n 130) (λ _. refl)
      (λ _. (same (eqb n 131) (λ _. refl)
      (λ _. (same (eqb n 132) (λ q. simp (value c (apart (no_control_value c.kind) n 132 q refl)))
      (λ _. (same (eqb n 133) (λ _. refl)
      (λ _. (same (eqb n 134) (λ q. simp (kind c (apart no_control_type n 134 q refl), value c (apart (no_control_value c.kind) n 134 q refl)))
      (λ _. (same (eqb n 135) (λ _. refl)
      (λ _. (same (eqb n 137) (λ q. simp (value c (apart (no_control_value c.kind) n 137 q refl)))
      (λ _. (same (eqb n 255) (λ q. simp (value c (apart (no_control_value c.kind) n 255 q refl)))
      (λ _. refl)))))))))))))))))))

  control-placed : (core : Core) (d : Download) (e : List ℕ) → control.controlled (plain_control c) core d e ≡ control.controlled c core d e
  unfolding control.controlled
  control-placed core d e =
      let n = c.number in
      same (eqb n 128) (λ _. refl)
      (λ _. (same (eqb n 129) (begun-same c core e d)
      (λ _. (same (eqb n 131) (λ _. refl)
      (λ _. (same (eqb n 132) (λ q. simp (value c (apart (no_control_value c.kind) n 132 q refl)))
      (λ _. (same (eqb n 133) (λ _. refl)
      (λ _. refl)))))))))

  controlled-same : (program : List ℕ) (r : Registers) (m : List ℕ)
      → controlling.controlled (plain_control c) program r m ≡ controlling.controlled c program r m
  unfolding controlling.controlled controlling.placed
  controlled-same program r m =
      let n = c.number in
      same (eqb n 130) (λ _. refl)
      (λ _. same (eqb n 137) (λ _. refl)
      (λ _. same (eqb n 255) (λ _. refl) (λ _. simp (control-placed r.core r.download r.entries))))

  control_same : (program : List ℕ) (r : Registers) (m : List ℕ)
      → silent (controlling.obeyed_control (plain_control c) program r m) ≡ silent (controlling.obeyed_control c program r m)
  unfolding controlling.obeyed_control
  control_same program r m =
      rw (control-judged r.core.running r.download.on (locked r.values), controlled-same program r m)
      (seen silent (is_done (controlling.judged_control c r)) (λ _. refl) (λ _. refl))

  control-answer : (running : Bool) (program : List ℕ) → control_answers c.number ≡ true
      → control.answer (plain_control c) running program ≡ control.answer c running program
  unfolding control.answer
  control-answer running program h =
      let n = c.number in
      same (eqb n 134) (λ q. simp (kind c (apart no_control_type n 134 q refl), value c (apart (no_control_value c.kind) n 134 q refl)))
      (λ a. same (eqb n 135) (λ _. refl) (λ b. absurd (false≢true (rw (a, b) at h))))

  control_answer_same : (program : List ℕ) (r : Registers) (m : List ℕ) → control_answers c.number ≡ true
      → controlling.obeyed_control (plain_control c) program r m ≡ controlling.obeyed_control c program r m
  unfolding controlling.obeyed_control
  control_answer_same program r m h =
      simp (
        control-judged r.core.running r.download.on (locked r.values),
        controlled-same program r m,
        control-answer r.core.running program h,
      )

pub laws : Laws
laws =
    record {
      judged_same = judged_same;
      step_same = step_same;
      direct_same = direct_same;
      answer_same = answer_same;
      control_same = control_same;
      control_answer_same = control_answer_same;
    }
