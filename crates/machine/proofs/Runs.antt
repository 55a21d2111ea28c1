-- The steps of a run in place are those of document 01's run. Assumes nothing.
use Prim.Native.Nat.{ℕ, zero, suc, ◌+◌, ◌*◌, ◌-◌, ◌≤◌, ◌<◌}
use native.Mathlib.Omega.{arith}
use native.Mathlib.Nat.{zero-add}
use mathlib.Core.Path.{◌≡◌, refl, sym, ap, ◌∙◌}
use mathlib.Core.Bool.{Bool, true, false, not, ◌&&◌, ◌||◌}
use mathlib.Core.List.{List}
use borrow.Author.Tests.{leb-true, leb-false, le-leb, le-ltb, lt-ltb}
use lib.Dec.{eqb, leb, ltb}
use lib.ListN.{length, get_or}
use Rattle.words.specs.Word.{pick}
use Rattle.words.proofs.Bools.{is_T, either, not-other}
use Rattle.wire.specs.Frame.{command_at}
use Rattle.wire.specs.declared.Command.{Command}
use Rattle.store.specs.Store.{record_at}
use Rattle.waits.specs.Waits.{dropped_wait}
use Rattle.waits.specs.declared.Wait.{Wait}
use Rattle.status.specs.declared.Status.{Status}
use Rattle.status.specs.declared.Status.TheVariants.{Done}
use Rattle.registers.specs.Registers.{with_wait, with_running}
use Rattle.registers.specs.declared.Core.{Core}
use Rattle.rules.specs.Step.{State, Pins, After, after, step}
use Rattle.rules.specs.Run.{Progress, begun, onward, advanced, goes_on, run, Summary, summary}
use Rattle.board.specs.declared.Registers.{Registers}
use Rattle.rules.specs.Steps as board
use Rattle.rules.specs.Steps.{state_of, pins_of}
use Rattle.reg_image.specs.With.{in_core}
use Rattle.cmd_turns.specs.declared.Left.{Left}
use Rattle.cmd_turns.specs.declared.Left.TheVariants.{Goes, Holds, Stops}
use Rattle.cmd_turns.specs.Turn.{Turn, turn, dropped, turned}
use Rattle.cmd_turns.specs.Settled.{settled, stepped}
use Rattle.cmd_turns.proofs.Settled.{alike, step-turned}
use Rattle.machine.specs.Steps.{Walk, is_going, step_turn, going}
use Rattle.machine.specs.Alone.{is_wait, readied, ended}
use Rattle.machine.proofs.Facts.{Facts, go-hold, stop-hold, awaits, others, stops, blind}

-- ---- registers whose wait is dropped
undropped : (r : Registers) → r.core.wait ≡ dropped_wait → dropped r ≡ r
undropped r h = ap (λ (w : Wait). in_core (with_wait w) r) (sym h)

-- no wait is armed unless the next record is a WAIT
unfoldable pub Ready : List ℕ → Registers → Type 0
Ready program r = is_wait program r.core.address ≡ false → r.core.wait ≡ dropped_wait

module _ (program : List ℕ) (long : length program ≡ 7168) where
  -- ---- one step
  record_is : (a : ℕ) → leb 1024 a ≡ false → record_at program a ≡ command_at program (0 + a * 7)
  unfolding record_at
  record_is a h =
      let l : a < 1024 = leb-false 1024 a h in
      rw (le-leb (a * 7 + 7) (length program) (omega (arith, long)), zero-add (a * 7))

  pub step_is : (r : Registers) (m : List ℕ) → board.turn_of (step program (pins_of r) (state_of r m)) r ≡ stepped (step_turn program 0 1024 r m)
  unfolding step step_turn
  step_is r m =
      alike (λ (y : After). board.turn_of y r) stepped (leb 1024 r.core.address) _ _ _ _ (λ _. refl)
      (λ h. step-turned r m (record_at program r.core.address) ∙ ap (λ (c : Command). stepped (turned c r m)) (record_is r.core.address h))

  -- as a state and a status
  pub after_is : (r : Registers) (m : List ℕ)
      → step program (pins_of r) (state_of r m)
      ≡ after (step_turn program 0 1024 r m).status (state_of (settled (step_turn program 0 1024 r m).left (step_turn program 0 1024 r m).registers) (step_turn program 0 1024 r m).store)
  after_is r m = ap (λ (t : board.Turn). after t.status (state_of t.registers t.store)) (step_is r m)

  pub pins-stay : (r : Registers) (m : List ℕ) → pins_of (settled (step_turn program 0 1024 r m).left (step_turn program 0 1024 r m).registers) ≡ pins_of r
  pins-stay r m = sym (ap (λ (t : board.Turn). pins_of t.registers) (step_is r m))

  facts : (r : Registers) (m : List ℕ) → Ready program r → Facts r (step_turn program 0 1024 r m)
  unfolding step_turn Ready
  facts r m ready =
      let a = r.core.address in
      either (Facts r) (leb 1024 a) _ _
      (λ h. stops r m (command_at program 0) (ready (rw (le-ltb a 1024 (leb-true 1024 a h)))) _)
      (λ h. by (leb-false 1024 a h) (eqb (get_or program (a * 7) 0) 27) refl)
    where
      number_is : (b : Bool) → eqb (get_or program (r.core.address * 7) 0) 27 ≡ b → eqb (get_or program (0 + r.core.address * 7) 0) 27 ≡ b
      number_is b e = rw (zero-add (r.core.address * 7)) e

      by : r.core.address < 1024 → (b : Bool) → eqb (get_or program (r.core.address * 7) 0) 27 ≡ b
          → Facts r (turned (command_at program (0 + r.core.address * 7)) r m)
      by l true e = awaits r m (command_at program (0 + r.core.address * 7)) (number_is true e)
      by l false e =
          others r m (command_at program (0 + r.core.address * 7)) (ready (rw (lt-ltb r.core.address 1024 l, e))) (number_is false e)

-- ---- the steps of a run
abbrev progress : Registers → List ℕ → Status → ℕ → Progress
progress r m s j = record { state = state_of r m; status = s; steps = j; held = false }

-- what is answered, after j steps, of a walk with a budget of n
abbrev summary_of : Walk → ℕ → ℕ → Summary
summary_of w j n =
    record {
      state = state_of (ended w.turn.left w.turn.registers) w.turn.store;
      status = w.turn.status;
      steps = j + (n - w.unused);
    }

pub unused-low : (program : List ℕ) (n : ℕ) (t : Turn) → (going program 0 1024 n t).unused ≤ n
unfolding going
unused-low program zero t = omega arith
unused-low program (suc n) t =
    by (is_going (step_turn program 0 1024 t.registers t.store).left) (unused-low program n (step_turn program 0 1024 t.registers t.store))
  where
    by : (b : Bool) → (going program 0 1024 n (step_turn program 0 1024 t.registers t.store)).unused ≤ n
        → (pick b (going program 0 1024 n (step_turn program 0 1024 t.registers t.store)) (record { turn = step_turn program 0 1024 t.registers t.store; unused = n })).unused ≤ suc n
    by true h = omega arith
    by false h = omega arith

-- a run ends where a WAIT holds, or the program does not run
run-ended : (program : List ℕ) (p : Pins) (n : ℕ) (x : Progress) → goes_on false x ≡ false → run false program p n x ≡ x
unfolding run
run-ended program p zero x h = refl
run-ended program p (suc n) x h = rw h

run_on : (program : List ℕ) (p : Pins) (n : ℕ) (x : Progress) → goes_on false x ≡ true → run false program p (suc n) x ≡ run false program p n (advanced program p x)
unfolding run
run_on program p n x h = rw h

going_on : (program : List ℕ) (n : ℕ) (t : Turn)
    → going program 0 1024 (suc n) t
    ≡ pick (is_going (step_turn program 0 1024 t.registers t.store).left) (going program 0 1024 n (step_turn program 0 1024 t.registers t.store))
    (record { turn = step_turn program 0 1024 t.registers t.store; unused = n })
unfolding going
going_on program n t = refl

module _ (program : List ℕ) (p : Pins) (n j : ℕ) (r : Registers) (t : Turn) (f : Facts r t) where
  -- the state after a step that this turn is
  abbrev then-state : State
  then-state = state_of (settled t.left t.registers) t.store

  counted : (u : ℕ) → u ≤ n → j + 1 + (n - u) ≡ j + (suc n - u)
  counted u h = omega arith

  one_more : j + 1 ≡ j + (suc n - n)
  one_more = omega arith

  -- the program goes on
  on-goes : t.left ≡ Goes
      → (summary (run false program p n (progress t.registers t.store t.status (j + 1))) ≡ summary_of (going program 0 1024 n (turn t.registers t.store t.status Goes)) (j + 1) n)
      → summary (run false program p n (onward (after t.status then-state) j))
      ≡ summary_of (pick (is_going t.left) (going program 0 1024 n t) (record { turn = t; unused = n })) j (suc n)
  on-goes e h =
      let w : t.registers.core.wait ≡ dropped_wait = f.wait (λ q. go-hold (sym e ∙ q)) in
      let s : settled t.left t.registers ≡ t.registers = ap (λ (l : Left). settled l t.registers) e ∙ undropped t.registers w in
      let a : t.registers.core.wait.armed ≡ false = ap (λ (v : Wait). v.armed) w in
      let g : going program 0 1024 n (turn t.registers t.store t.status Goes) ≡ going program 0 1024 n t = ap (λ (l : Left). going program 0 1024 n (turn t.registers t.store t.status l)) (sym e) in
      ap (λ (x : Progress). summary (run false program p n x))
      (ap (λ (k : Registers). onward (after t.status (state_of k t.store)) j) s ∙ ap (λ (b : Bool). record { state = state_of t.registers t.store; status = t.status; steps = j + 1; held = b }) a)
      ∙ h
      ∙ ap (λ (k : Walk). summary_of k (j + 1) n) g
      ∙ ap (λ (i : ℕ). record { state = state_of (ended (going program 0 1024 n t).turn.left (going program 0 1024 n t).turn.registers) (going program 0 1024 n t).turn.store; status = (going program 0 1024 n t).turn.status; steps = i }) (counted (going program 0 1024 n t).unused (unused-low program n t))
      ∙ ap (λ (l : Left). summary_of (pick (is_going l) (going program 0 1024 n t) (record { turn = t; unused = n })) j (suc n)) (sym e)

  -- it does not
  on-ends : (l : Left) → t.left ≡ l → is_going l ≡ false → goes_on false (onward (after t.status then-state) j) ≡ false
      → settled l t.registers ≡ ended l t.registers
      → summary (run false program p n (onward (after t.status then-state) j))
      ≡ summary_of (pick (is_going t.left) (going program 0 1024 n t) (record { turn = t; unused = n })) j (suc n)
  on-ends l e i h s =
      ap summary (run-ended program p n (onward (after t.status then-state) j) h)
      ∙ ap (λ (k : Registers). record { state = state_of k t.store; status = t.status; steps = j + 1 })
      (ap (λ (q : Left). settled q t.registers) e ∙ s ∙ ap (λ (q : Left). ended q t.registers) (sym e))
      ∙ ap (λ (k : ℕ). record { state = state_of (ended t.left t.registers) t.store; status = t.status; steps = k }) one_more
      ∙ ap (λ (b : Bool). summary_of (pick b (going program 0 1024 n t) (record { turn = t; unused = n })) j (suc n)) (sym (ap is_going e ∙ i))

  on-holds : t.left ≡ Holds
      → summary (run false program p n (onward (after t.status then-state) j))
      ≡ summary_of (pick (is_going t.left) (going program 0 1024 n t) (record { turn = t; unused = n })) j (suc n)
  on-holds e =
      on-ends Holds e refl
      (ap (λ (k : Registers). not k.core.wait.armed && (false || k.core.running)) (ap (λ (q : Left). settled q t.registers) e)
      ∙ ap (λ (b : Bool). not b && (false || t.registers.core.running)) (f.armed e))
      refl

  on-stops : t.left ≡ Stops
      → summary (run false program p n (onward (after t.status then-state) j))
      ≡ summary_of (pick (is_going t.left) (going program 0 1024 n t) (record { turn = t; unused = n })) j (suc n)
  on-stops e =
      let w : t.registers.core.wait ≡ dropped_wait = f.wait (λ q. stop-hold (sym e ∙ q)) in
      on-ends Stops e refl
      (ap (λ (q : Left). goes_on false (onward (after t.status (state_of (settled q t.registers) t.store)) j)) e)
      (ap (λ (v : Wait). in_core (λ (c : Core). with_running false (with_wait v c)) t.registers) (sym w))

module _ (program : List ℕ) (long : length program ≡ 7168) (p : Pins) where
  pub walked : (n : ℕ) (r : Registers) (m : List ℕ) (s : Status) (j : ℕ) → r.core.running ≡ true → Ready program r → p ≡ pins_of r
      → summary (run false program p n (progress r m s j)) ≡ summary_of (going program 0 1024 n (turn r m s Goes)) j n
  unfolding run going Ready
  walked zero r m s j on ready same = ap (λ (k : ℕ). record { state = state_of r m; status = s; steps = k }) (let e : j ≡ j + (0 - 0) = omega arith in e)
  walked (suc n) r m s j on ready same =
      let t = step_turn program 0 1024 r m in
      let f = facts program long r m ready in
      let y : step program p (state_of r m) ≡ after t.status (state_of (settled t.left t.registers) t.store) = rw same (after_is program long r m) in
      ap summary (run_on program p n (progress r m s j) on)
      ∙ ap (λ (z : After). summary (run false program p n (onward z j))) y
      ∙ by f t.left refl
      (λ e. walked n t.registers t.store t.status (j + 1) (f.running e ∙ on)
      (λ _. f.wait (λ q. go-hold (sym e ∙ q)))
      (same ∙ sym (ap (λ (l : Left). pins_of (settled l t.registers)) (sym e) ∙ pins-stay program long r m)))
      ∙ ap (λ (w : Walk). summary_of w j (suc n)) (sym (going_on program n (turn r m s Goes)))
    where
      by : Facts r (step_turn program 0 1024 r m) → (l : Left) → (step_turn program 0 1024 r m).left ≡ l
          → ((step_turn program 0 1024 r m).left ≡ Goes
          → summary (run false program p n (progress (step_turn program 0 1024 r m).registers (step_turn program 0 1024 r m).store (step_turn program 0 1024 r m).status (j + 1)))
          ≡ summary_of (going program 0 1024 n (turn (step_turn program 0 1024 r m).registers (step_turn program 0 1024 r m).store (step_turn program 0 1024 r m).status Goes)) (j + 1) n)
          → summary (run false program p n (onward (after (step_turn program 0 1024 r m).status (state_of (settled (step_turn program 0 1024 r m).left (step_turn program 0 1024 r m).registers) (step_turn program 0 1024 r m).store)) j))
          ≡ summary_of (pick (is_going (step_turn program 0 1024 r m).left) (going program 0 1024 n (step_turn program 0 1024 r m)) (record { turn = step_turn program 0 1024 r m; unused = n })) j (suc n)
      by f Goes e h = on-goes program p n j r (step_turn program 0 1024 r m) f e (h e)
      by f Holds e h = on-holds program p n j r (step_turn program 0 1024 r m) f e
      by f Stops e h = on-stops program p n j r (step_turn program 0 1024 r m) f e

-- ---- what steps do not touch: download and inputs
rest-settled : (x : State) (l : Left) (q : Registers) → board.with_state x (settled l q) ≡ board.with_state x q
rest-settled x Goes q = refl
rest-settled x Holds q = refl
rest-settled x Stops q = refl

whole : (l : Left) (q : Registers) (m : List ℕ) → board.with_state (state_of (ended l q) m) q ≡ ended l q
whole Goes q m = refl
whole Holds q m = refl
whole Stops q m = refl

-- the last turn of a budget
abbrev last : Turn → Walk
last t = record { turn = t; unused = 0 }

module _ (program : List ℕ) (long : length program ≡ 7168) where
  rest-step : (x : State) (r : Registers) (m : List ℕ) → board.with_state x (step_turn program 0 1024 r m).registers ≡ board.with_state x r
  rest-step x r m =
      sym (rest-settled x (step_turn program 0 1024 r m).left (step_turn program 0 1024 r m).registers)
      ∙ sym (ap (λ (t : board.Turn). board.with_state x t.registers) (step_is program long r m))

  rest-going : (x : State) (n : ℕ) (t : Turn) → board.with_state x (going program 0 1024 n t).turn.registers ≡ board.with_state x t.registers
  unfolding going
  rest-going x zero t = refl
  rest-going x (suc n) t =
      by (is_going (step_turn program 0 1024 t.registers t.store).left) (rest-going x n (step_turn program 0 1024 t.registers t.store))
      ∙ rest-step x t.registers t.store
    where
      by : (b : Bool)
          → board.with_state x (going program 0 1024 n (step_turn program 0 1024 t.registers t.store)).turn.registers ≡ board.with_state x (step_turn program 0 1024 t.registers t.store).registers
          → board.with_state x (pick b (going program 0 1024 n (step_turn program 0 1024 t.registers t.store)) (record { turn = step_turn program 0 1024 t.registers t.store; unused = n })).turn.registers
          ≡ board.with_state x (step_turn program 0 1024 t.registers t.store).registers
      by true h = h
      by false h = refl

  -- ---- a first step that is no WAIT does not look at the wait
  module _ (r : Registers) (m : List ℕ) (e : is_wait program r.core.address ≡ false) where
    blind-step : stepped (step_turn program 0 1024 (dropped r) m) ≡ stepped (step_turn program 0 1024 r m)
    unfolding step_turn
    blind-step =
        let a = r.core.address in
        alike stepped stepped (leb 1024 a) _ _ _ _ (λ _. refl)
        (λ h. blind r m (command_at program (0 + a * 7)) (rw (zero-add (a * 7)) (not-other (ltb a 1024) (eqb (get_or program (a * 7) 0) 27) (lt-ltb a 1024 (leb-false 1024 a h)) e)))

    step_same : step program (pins_of r) (state_of r m) ≡ step program (pins_of r) (state_of (dropped r) m)
    step_same =
        ap (λ (t : board.Turn). after t.status (state_of t.registers t.store)) (step_is program long r m ∙ sym blind-step ∙ sym (step_is program long (dropped r) m))

    pub begin-same : (n : ℕ) → 0 < n → r.core.running ≡ true
        → run false program (pins_of r) n (begun (state_of r m)) ≡ run false program (pins_of r) n (begun (state_of (dropped r) m))
    begin-same zero h on = absurd (omega arith)
    begin-same (suc n) h on =
        run_on program (pins_of r) n (begun (state_of r m)) on
        ∙ ap (λ (z : After). run false program (pins_of r) n (onward z 0)) step_same
        ∙ sym (run_on program (pins_of r) n (begun (state_of (dropped r) m)) on)

  -- ---- a run, from a program that runs and with a budget
  module _ (n : ℕ) (h : 0 < n) (r : Registers) (m : List ℕ) (on : r.core.running ≡ true) where
    abbrev walk : Walk
    walk = going program 0 1024 n (turn (readied program r) m Done Goes)

    summed : summary (run false program (pins_of r) n (begun (state_of r m))) ≡ summary_of walk 0 n
    unfolding Ready
    summed = by (is_wait program r.core.address) refl
      where
        by : (b : Bool) → is_wait program r.core.address ≡ b
            → summary (run false program (pins_of r) n (begun (state_of r m))) ≡ summary_of (going program 0 1024 n (turn (pick (is_wait program r.core.address) r (dropped r)) m Done Goes)) 0 n
        by true e =
            walked program long (pins_of r) n r m Done 0 on (λ f. absurd (is_T false (sym f ∙ e))) refl
            ∙ ap (λ (b : Bool). summary_of (going program 0 1024 n (turn (pick b r (dropped r)) m Done Goes)) 0 n) (sym e)
        by false e =
            ap summary (begin-same r m e n h on)
            ∙ walked program long (pins_of r) n (dropped r) m Done 0 on (λ _. refl) refl
            ∙ ap (λ (b : Bool). summary_of (going program 0 1024 n (turn (pick b r (dropped r)) m Done Goes)) 0 n) (sym e)

    rest-readied : (x : State) (b : Bool) → board.with_state x (pick b r (dropped r)) ≡ board.with_state x r
    rest-readied x true = refl
    rest-readied x false = refl

    pub steps-are : board.steps false program n r m
        ≡ record { registers = ended walk.turn.left walk.turn.registers; store = walk.turn.store; status = walk.turn.status; steps = n - walk.unused }
    unfolding board.steps
    steps-are =
        let q = walk.turn.registers in
        let x = state_of (ended walk.turn.left q) walk.turn.store in
        let e : board.with_state x r ≡ ended walk.turn.left q =
        sym (rest-going x n (turn (readied program r) m Done Goes) ∙ rest-readied x (is_wait program r.core.address)) ∙ whole walk.turn.left q walk.turn.store in
        ap (λ (z : Summary). board.steps_of z r) summed
        ∙ ap (λ (k : Registers). record { registers = k; store = walk.turn.store; status = walk.turn.status; steps = 0 + (n - walk.unused) }) e
        ∙ ap (λ (i : ℕ). record { registers = ended walk.turn.left q; store = walk.turn.store; status = walk.turn.status; steps = i }) (zero-add (n - walk.unused))

  -- ---- one step alone
  one : (t : Turn) → going program 0 1024 1 t ≡ last (step_turn program 0 1024 t.registers t.store)
  unfolding going
  one t = by (is_going (step_turn program 0 1024 t.registers t.store).left)
    where
      by : (b : Bool) → pick b (last (step_turn program 0 1024 t.registers t.store)) (last (step_turn program 0 1024 t.registers t.store)) ≡ last (step_turn program 0 1024 t.registers t.store)
      by true = refl
      by false = refl

  settled-ended : (r : Registers) (t : Turn) → Facts r t → settled t.left t.registers ≡ ended t.left t.registers
  settled-ended r t f = by t.left refl
    where
      by : (l : Left) → t.left ≡ l → settled l t.registers ≡ ended l t.registers
      by Goes e = undropped t.registers (f.wait (λ q. go-hold (sym e ∙ q)))
      by Holds e = refl
      by Stops e = ap (λ (v : Wait). in_core (λ (c : Core). with_running false (with_wait v c)) t.registers) (sym (f.wait (λ q. stop-hold (sym e ∙ q))))

  readied-step : (r : Registers) (m : List ℕ) → stepped (step_turn program 0 1024 (readied program r) m) ≡ stepped (step_turn program 0 1024 r m)
  readied-step r m = by (is_wait program r.core.address) refl
    where
      by : (b : Bool) → is_wait program r.core.address ≡ b → stepped (step_turn program 0 1024 (pick (is_wait program r.core.address) r (dropped r)) m) ≡ stepped (step_turn program 0 1024 r m)
      by true e = rw e
      by false e = rw e (blind-step r m e)

  readied-ready : (r : Registers) → Ready program (readied program r)
  unfolding Ready
  readied-ready r = by (is_wait program r.core.address) refl
    where
      by : (b : Bool) → is_wait program r.core.address ≡ b
          → is_wait program (pick (is_wait program r.core.address) r (dropped r)).core.address ≡ false → (pick (is_wait program r.core.address) r (dropped r)).core.wait ≡ dropped_wait
      by true e f = absurd (is_T false (sym (rw e at f) ∙ e))
      by false e f = rw e

  pub alone-is : (r : Registers) (m : List ℕ)
      → board.step_once program r m
      ≡ record {
        registers = ended (going program 0 1024 1 (turn (readied program r) m Done Goes)).turn.left (going program 0 1024 1 (turn (readied program r) m Done Goes)).turn.registers;
        store = (going program 0 1024 1 (turn (readied program r) m Done Goes)).turn.store;
        status = (going program 0 1024 1 (turn (readied program r) m Done Goes)).turn.status;
      }
  unfolding board.step_once
  alone-is r m =
      let t = step_turn program 0 1024 (readied program r) m in
      step_is program long r m
      ∙ sym (readied-step r m)
      ∙ ap (λ (k : Registers). record { registers = k; store = t.store; status = t.status }) (settled-ended (readied program r) t (facts program long (readied program r) m (readied-ready r)))
      ∙ ap (λ (w : Walk). record { registers = ended w.turn.left w.turn.registers; store = w.turn.store; status = w.turn.status }) (sym (one (turn (readied program r) m Done Goes)))

-- ---- a run that makes no step
nothing : (program : List ℕ) (n : ℕ) (r : Registers) (m : List ℕ) → run false program (pins_of r) n (begun (state_of r m)) ≡ begun (state_of r m)
    → board.steps false program n r m ≡ record { registers = r; store = m; status = Done; steps = 0 }
unfolding board.steps
nothing program n r m h = ap (λ (x : Progress). board.steps_of (summary x) r) h

pub not-running : (program : List ℕ) (n : ℕ) (r : Registers) (m : List ℕ) → r.core.running ≡ false
    → board.steps false program n r m ≡ record { registers = r; store = m; status = Done; steps = 0 }
not-running program n r m h = nothing program n r m (run-ended program (pins_of r) n (begun (state_of r m)) h)

pub no-budget : (program : List ℕ) (n : ℕ) (r : Registers) (m : List ℕ) → n ≡ 0
    → board.steps false program n r m ≡ record { registers = r; store = m; status = Done; steps = 0 }
unfolding run
no-budget program n r m h = nothing program n r m (rw h)
