-- What a command that the judge lets through is still refused with: only what is listed. Assumes nothing.
use Prim.Native.Nat.{ℕ, ◌+◌}
use native.Mathlib.Omega.{arith}
use mathlib.Core.Path.{◌≡◌, refl, sym, ◌∙◌}
use mathlib.Core.Logic.{◌⊎◌, inl, inr}
use mathlib.Core.Bool.{Bool, true, false, not, true≢false, false≢true, ◌&&◌, ◌||◌}
use mathlib.Core.List.{List}
use lib.Dec.{eqb, leb}
use lib.IntN.{ℤ, pos, negsuc, neg_ℤ, ◌+ℤ◌}
use borrow.Author.Tests.{eqb-true, eqb-false, leb-true, ltb-true, lt-leb, not-true}
use Rattle.words.specs.Word.{pick, word}
use Rattle.words.specs.declared.Word.{Word}
use Rattle.words.proofs.Bools.{each, or_else, picked, either}
use Rattle.wire.specs.declared.Command.{Command}
use Rattle.order.specs.Order.{same_w}
use Rattle.sheet.specs.Sheet.{axis, globals, read_only}
use Rattle.sheet.specs.Rows.{parameters}
use Rattle.sheet.specs.Places.{axis_place}
use Rattle.settings.specs.Settings.{bank_place, settable, kept, is_global, guarded, locked}
use Rattle.registers.specs.declared.Core.{Core}
use Rattle.waits.specs.declared.Wait.{Wait}
use Rattle.waiting.specs.Waiting.{happened, armed_from, not_negative, armed_with, tested, waited, Waited, Refused, Passed, TimedOut, Holding}
use Rattle.status.specs.Status.{is_done}
use Rattle.status.specs.declared.Status.TheVariants.{Value, Locked}
use Rattle.status.proofs.Statuses.{all_right}
use Rattle.rules.specs.Effects.{status_of, Effect}
use Rattle.rules.specs.Effects as effect
use Rattle.rules.specs.Motion.{parameter, within_limit, turn, right_within, left_within, is_word, move_by, move_to}
use Rattle.rules.specs.Assigning.{shut, assign, take, keep}
use Rattle.dividing.specs.Divide.{Answer, is_zero}
use Rattle.calculating.specs.Calculate.{calculated}
use Rattle.rules.specs.Numbers.{into_accumulator, calc, calcx, clear}
use Rattle.fields.specs.Fields as fields
use Rattle.judge.specs.Judge.{judged}
use Rattle.rules.specs.Deciding.{decided}
use Rattle.rules.proofs.DecidingCases.{by-command}
use Rattle.safety.specs.Listed.{by_value, by_lock, Listed}

-- ---- what the judge has let through
module _ (c : Command) (h : is_done (judged c) ≡ true) where
  move-kind : c.number ≡ 4 → leb c.kind 1 ≡ true
  unfolding judged
  move-kind e = (all_right true (fields.motor_zero c) (leb c.kind 1) true true (rw e at h)).2

  sap-writable : c.number ≡ 5 → fields.writable c.kind ≡ true
  unfolding judged fields.sap
  sap-writable e =
      (all_right true (fields.motor_zero c) (fields.writable c.kind) (settable (axis_place c.kind) c.value.v) true (rw e at h)).2

  aap-writable : c.number ≡ 34 → fields.writable c.kind ≡ true
  unfolding judged
  aap-writable e = (all_right true (fields.motor_zero c) (fields.writable c.kind) true true (rw e at h)).2

  sgp-bank : c.number ≡ 9 → fields.is_bank c.motor ≡ true
  unfolding judged fields.sgp
  sgp-bank e =
      (all_right true (fields.is_bank c.motor) (fields.takes c.motor c.kind) (settable (bank_place c.motor c.kind) c.value.v) true (rw e at h)).1

  agp-bank : c.number ≡ 35 → fields.is_bank c.motor ≡ true
  unfolding judged
  agp-bank e = (all_right true (fields.is_bank c.motor) (fields.takes c.motor c.kind) true true (rw e at h)).1

  calc-divisor : c.number ≡ 19 → fields.calculable c.kind c.value.v ≡ true
  unfolding judged
  calc-divisor e = (all_right true true (leb c.kind 9) (fields.calculable c.kind c.value.v) true (rw e at h)).3

  pub wait-value : c.number ≡ 27 → fields.waitable c.kind c.value.v ≡ true
  unfolding judged
  wait-value e =
      (all_right true (fields.waits_there c.kind c.motor) (leb c.kind 3) (fields.waitable c.kind c.value.v) true (rw e at h)).3

-- ---- motion
module _ (c : Command) where
  abbrev On : Effect → Type 0
  On e = Listed c (status_of e)

  right-listed : (limit v : ℤ) → c.number ≡ 1 → On (right_within limit v)
  unfolding right_within by_value
  right-listed limit v e =
      picked On (within_limit limit v) (turn v) (effect.Refused Value) (λ _. Listed.carried-out) (Listed.by-value (simp e))

  left-listed : (limit v : ℤ) → c.number ≡ 2 → On (left_within limit v)
  unfolding left_within by_value
  left-listed limit v e =
      picked On (within_limit limit v) (turn (neg_ℤ v)) (effect.Refused Value) (λ _. Listed.carried-out) (Listed.by-value (simp e))

  by-listed : (a v : ℤ) → by_value c ≡ true → On (move_by a v)
  unfolding move_by
  by-listed a v b =
      let z = a +ℤ v in
      picked On (is_word z) (effect.Move (word z)) (effect.Refused Value) (λ _. Listed.carried-out) (Listed.by-value b)

  kind-one : c.number ≡ 4 → leb c.kind 1 ≡ true → eqb c.kind 0 ≡ false → by_value c ≡ true
  unfolding by_value
  kind-one e l z =
      let k : c.kind ≡ 1 = let n = eqb-false c.kind 0 z in let m = leb-true c.kind 1 l in omega (arith, n, m) in
      simp (e, k)

  to-listed : (values : List ℤ) → c.number ≡ 4 → leb c.kind 1 ≡ true → On (move_to c.kind c.value values)
  unfolding move_to
  to-listed values e l =
      let a = (parameter 52 values).v in
      either On (eqb c.kind 0) (effect.Move c.value) (move_by a c.value.v) (λ _. Listed.carried-out)
      (λ z. by-listed a c.value.v (kind-one e l z))

  -- ---- setting and storing
  assign-listed : (place : ℕ) (w : Word) (values : List ℤ) → (is_global place ≡ true → guarded place ≡ true → by_lock c ≡ true)
      → On (assign place w values)
  unfolding assign
  assign-listed place w values lock =
      let global = pick (shut place values) (effect.Refused Locked) (effect.Global place (kept place w)) in
      picked On (eqb place (axis_place 50)) (effect.Move w) (pick (is_global place) global (effect.Set place w)) (λ _. Listed.carried-out)
      (picked On (is_global place) global (effect.Set place w)
      (λ g. picked On (shut place values) (effect.Refused Locked) (effect.Global place (kept place w))
      (λ s. Listed.by-lock (lock g (each (guarded place) (locked values) s).0)) Listed.carried-out)
      Listed.carried-out)

  take-listed : (place : ℕ) (w : Word) (values : List ℤ) → by_value c ≡ true → (is_global place ≡ true → guarded place ≡ true → by_lock c ≡ true)
      → On (take place w values)
  unfolding take
  take-listed place w values b lock =
      picked On (settable place w.v) (assign place w values) (effect.Refused Value) (λ _. assign-listed place w values lock) (Listed.by-value b)

  keep-listed : (place : ℕ) (values : List ℤ) → by_lock c ≡ true → On (keep place values)
  unfolding keep
  keep-listed place values b =
      picked On (locked values) (effect.Refused Locked) (effect.Store place) (λ _. Listed.by-lock b) Listed.carried-out

-- an axis parameter is no global
axis-no-global : (n : ℕ) → fields.writable n ≡ true → is_global (axis_place n) ≡ false
unfolding fields.writable is_global axis
axis-no-global n h =
    let l = ltb-true (axis_place n) 43 (each (fields.readable n) _ h).0 in
    simp (lt-leb 43 (axis_place n) l)

axis-lock : (c : Command) → fields.writable c.kind ≡ true → is_global (axis_place c.kind) ≡ true → guarded (axis_place c.kind) ≡ true
    → by_lock c ≡ true
axis-lock c h g _ = absurd (true≢false (sym g ∙ axis-no-global c.kind h))

-- a guarded place is that of 66, 76 or 77 in bank 0
abbrev is_guarded : ℕ → Bool
is_guarded n = eqb n 66 || eqb n 76 || eqb n 77

guarded-number : (n : ℕ) → guarded (bank_place 0 n) ≡ true → is_guarded n ≡ true
unfolding guarded bank_place axis globals read_only
guarded-number n =
    either (λ (i : ℕ). P i → is_guarded n ≡ true) (eqb n 66) 0 _ (λ e _. simp (eqb-true n 66 e))
    (λ _. either (λ (i : ℕ). P (i + 1) → is_guarded n ≡ true) (eqb n 73) 0 _ (λ _ h. absurd (false≢true h))
    (λ _. either (λ (i : ℕ). P (i + 1 + 1) → is_guarded n ≡ true) (eqb n 76) 0 _ (λ e _. simp (eqb-true n 76 e))
    (λ _. either (λ (i : ℕ). P (i + 1 + 1 + 1) → is_guarded n ≡ true) (eqb n 77) 0 _ (λ e _. simp (eqb-true n 77 e))
    (λ _. either (λ (i : ℕ). P (i + 1 + 1 + 1 + 1) → is_guarded n ≡ true) (eqb n 128) 0 _ (λ _ h. absurd (false≢true h))
    (λ _. either (λ (i : ℕ). P (i + 1 + 1 + 1 + 1 + 1) → is_guarded n ≡ true) (eqb n 130) 0 _ (λ _ h. absurd (false≢true h))
    (λ _ h. absurd (false≢true h)))))))
  where
    P : ℕ → Type 0
    P i = eqb (43 + i) 43 || eqb (43 + i) 45 || eqb (43 + i) 46 ≡ true

variable-free : (n : ℕ) → guarded (bank_place 2 n) ≡ true → ⊥
unfolding guarded bank_place axis globals read_only parameters
variable-free n h =
    or_else (eqb (47 + n) 43 || eqb (47 + n) 45) (eqb (47 + n) 46) h
    (λ g. or_else (eqb (47 + n) 43) (eqb (47 + n) 45) g (λ e. let q = eqb-true (47 + n) 43 e in omega (arith, q)) (λ e. let q = eqb-true (47 + n) 45 e in omega (arith, q)))
    (λ e. let q = eqb-true (47 + n) 46 e in omega (arith, q))

bank-guarded : (bank n : ℕ) → fields.is_bank bank ≡ true → guarded (bank_place bank n) ≡ true → eqb bank 0 && is_guarded n ≡ true
bank-guarded bank n b h =
    or_else (eqb bank 0) (eqb bank 2) b
    (λ e. let q : bank ≡ 0 = eqb-true bank 0 e in simp (q, guarded-number n (rw q at h)))
    (λ e. let q : bank ≡ 2 = eqb-true bank 2 e in absurd (variable-free n (rw q at h)))

module _ (c : Command) (b : fields.is_bank c.motor ≡ true) (g : guarded (bank_place c.motor c.kind) ≡ true) where
  sgp-lock : c.number ≡ 9 → by_lock c ≡ true
  unfolding by_lock
  sgp-lock e = simp (e, bank-guarded c.motor c.kind b g)

  agp-lock : c.number ≡ 35 → by_lock c ≡ true
  unfolding by_lock
  agp-lock e = simp (e, bank-guarded c.motor c.kind b g)

-- ---- numbers
zero_same : (z : ℤ) → same_w z (pos 0) ≡ is_zero z
zero_same (pos n) = refl
zero_same (negsuc n) = refl

-- only a division by zero is refused
calculated-done : (kind : ℕ) (a b o : ℤ) → (fields.divides kind ≡ true → is_zero b ≡ false) → (calculated kind a b o).status ≡ 100
unfolding calculated
calculated-done kind a b o f =
    let P : Answer → Type 0 = λ x. x.status ≡ 100 in
    picked P (eqb kind 0) _ _ (λ _. refl)
    (picked P (eqb kind 1) _ _ (λ _. refl)
    (picked P (eqb kind 2) _ _ (λ _. refl)
    (picked P (eqb kind 3) _ _ (λ e. let z = f (simp e) in simp z)
    (picked P (eqb kind 4) _ _ (λ e. let z = f (simp (eqb-true kind 4 e)) in simp z)
    (picked P (eqb kind 5) _ _ (λ _. refl)
    (picked P (eqb kind 6) _ _ (λ _. refl)
    (picked P (eqb kind 7) _ _ (λ _. refl) refl)))))))

divides-by : (kind : ℕ) (z : ℤ) → fields.calculable kind z ≡ true → fields.divides kind ≡ true → is_zero z ≡ false
divides-by kind z h d =
    let n : not (same_w z (pos 0)) ≡ true = rw d at h in
    sym (zero_same z) ∙ not-true (same_w z (pos 0)) n

module _ (c : Command) (accumulator x : Word) where
  into-done : (a : Answer) → a.status ≡ 100 → On c (into_accumulator a x)
  unfolding into_accumulator
  into-done a e = simp e Listed.carried-out

  calc-listed : fields.calculable c.kind c.value.v ≡ true → On c (calc c.kind c.value accumulator x)
  unfolding calc
  calc-listed h =
      let a = calculated c.kind accumulator.v c.value.v accumulator.v in
      picked (On c) (eqb c.kind 9) (effect.Numbers c.value x) (into_accumulator a x) (λ _. Listed.carried-out)
      (into-done a (calculated-done c.kind accumulator.v c.value.v accumulator.v (divides-by c.kind c.value.v h)))

  divides-listed : c.number ≡ 33 → fields.divides c.kind ≡ true → by_value c ≡ true
  unfolding by_value
  divides-listed e d = simp (e, d)

  into-listed : c.number ≡ 33 → (b : Bool) → fields.divides c.kind ≡ b → On c (into_accumulator (calculated c.kind accumulator.v x.v x.v) x)
  unfolding into_accumulator
  into-listed e true d =
      let a = calculated c.kind accumulator.v x.v x.v in
      picked (On c) (eqb a.status 100) (effect.Numbers (word a.value) x) (effect.Refused Value) (λ _. Listed.carried-out)
      (Listed.by-value (divides-listed e d))
  into-listed e false d =
      into-done (calculated c.kind accumulator.v x.v x.v)
      (calculated-done c.kind accumulator.v x.v x.v (λ t. absurd (true≢false (sym t ∙ d))))

  calcx-listed : c.number ≡ 33 → On c (calcx c.kind accumulator x)
  unfolding calcx
  calcx-listed e =
      let a = calculated c.kind accumulator.v x.v x.v in
      picked (On c) (eqb c.kind 9) (effect.Numbers accumulator accumulator) (pick (eqb c.kind 10) (effect.Numbers x accumulator) (into_accumulator a x))
      (λ _. Listed.carried-out)
      (picked (On c) (eqb c.kind 10) (effect.Numbers x accumulator) (into_accumulator a x) (λ _. Listed.carried-out)
      (into-listed e (fields.divides c.kind) refl))

-- ---- all that work
module _ (c : Command) where
  by-accumulator : (c.number ≡ 34) ⊎ (c.number ≡ 35) → by_value c ≡ true
  unfolding by_value
  by-accumulator (inl q) = simp q
  by-accumulator (inr q) = simp q

  by-storing : (c.number ≡ 7) ⊎ (c.number ≡ 11) → by_lock c ≡ true
  unfolding by_lock
  by-storing (inl q) = simp q
  by-storing (inr q) = simp q

pub decided-listed : (c : Command) (core : Core) (values : List ℤ) → is_done (judged c) ≡ true → Listed c (status_of (decided c core values))
unfolding clear
decided-listed c core values h =
    let a = core.accumulator in
    let axis = axis_place c.kind in
    let bank = bank_place c.motor c.kind in
    by-command c core values (On c)
    (record {
      ror = right-listed c (parameter 43 values).v c.value.v;
      rol = left-listed c (parameter 43 values).v c.value.v;
      mst = λ _. Listed.carried-out;
      mvp = λ e. to-listed c values e (move-kind c h e);
      sap = λ e. assign-listed c axis c.value values (axis-lock c (sap-writable c h e));
      stap = λ e. keep-listed c axis values (by-storing c (inl e));
      rsap = λ _. Listed.carried-out;
      sgp = λ e. assign-listed c bank c.value values (λ _ g. sgp-lock c (sgp-bank c h e) g e);
      stgp = λ e. keep-listed c bank values (by-storing c (inr e));
      rsgp = λ _. Listed.carried-out;
      sio = λ _. Listed.carried-out;
      calc = λ e. calc-listed c a core.x (calc-divisor c h e);
      comp = λ _. Listed.carried-out;
      calcx = calcx-listed c a core.x;
      aap = λ e. take-listed c axis a values (by-accumulator c (inl e)) (axis-lock c (aap-writable c h e));
      agp = λ e. take-listed c bank a values (by-accumulator c (inr e)) (λ _ g. agp-lock c (agp-bank c h e) g e);
      cle = Listed.carried-out;
    })

-- ---- WAIT
abbrev pub is_refused : Waited → Bool
is_refused Refused = true
is_refused Passed = false
is_refused TimedOut = false
is_refused (Holding w) = false

tested-not : (kind : ℕ) (values : List ℤ) (w : Wait) → is_refused (tested kind values w) ≡ false
unfolding tested
tested-not kind values w =
    let P : Waited → Type 0 = λ t. is_refused t ≡ false in
    picked P (eqb kind 0) _ _ (λ _. picked P (eqb w.count 0) _ _ (λ _. refl) refl)
    (picked P (happened kind values) _ _ (λ _. refl) (picked P (w.timed && eqb w.count 0) _ _ (λ _. refl) refl))

-- a value that may be waited for and is not taken is -1
minus_one : (value accumulator : Word) (b : Bool) → not_negative (pick b accumulator value).v ≡ false → not_negative value.v || b ≡ true → b ≡ true
minus_one value accumulator true n h = refl
minus_one value accumulator false n h = or_else (not_negative value.v) false h (λ e. absurd (true≢false (sym e ∙ n))) (λ e. e)

ticks-listed : (c : Command) → c.number ≡ 27 → eqb c.kind 0 && same_w c.value.v (negsuc 0) ≡ true → by_value c ≡ true
unfolding by_value
ticks-listed c e m = simp (e, m)

-- a WAIT that the judge lets through and that is refused is of TICKS -1
pub waited-listed : (c : Command) (accumulator : Word) (values : List ℤ) (w : Wait) → c.number ≡ 27
    → fields.waitable c.kind c.value.v ≡ true → is_refused (waited c.kind c.value accumulator values w) ≡ true → by_value c ≡ true
unfolding waited
waited-listed c accumulator values w e h =
    let P : Waited → Type 0 = λ t. is_refused t ≡ true → by_value c ≡ true in
    let b = eqb c.kind 0 && same_w c.value.v (negsuc 0) in
    let z = (armed_from c.kind c.value accumulator).v in
    let not-now : (v : Wait) → P (tested c.kind values v) = λ v t. absurd (true≢false (sym t ∙ tested-not c.kind values v)) in
    picked P w.armed (tested c.kind values w) (pick (not_negative z) (tested c.kind values (armed_with z)) Refused) (λ _. not-now w)
    (either P (not_negative z) (tested c.kind values (armed_with z)) Refused (λ _. not-now (armed_with z))
    (λ n _. ticks-listed c e (minus_one c.value accumulator b n h)))
