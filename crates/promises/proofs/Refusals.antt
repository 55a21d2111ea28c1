-- The laws of commands, datagrams and runs. Assumes nothing.
use Rattle.std.specs.Prelude.{Result, Ok, Err}
use Prim.Native.Nat.{ℕ}
use mathlib.Core.Path.{◌≡◌, refl, sym, ap, ◌∙◌}
use mathlib.Core.Bool.{Bool, true, false, true≢false, ◌&&◌}
use mathlib.Core.List.{List}
use lib.Dec.{eqb, leb}
use lib.IntN.{pos}
use lib.ListN.{length, get_or}
use mir.Syntax.{w32}
use mir.Val.{SFits}
use Rattle.words.specs.Word.{pick, word}
use Rattle.words.specs.Laws.{AllBytes}
use Rattle.words.specs.declared.Word.{Word}
use Rattle.words.proofs.Bools.{picked}
use Rattle.words.proofs.Trips.{read_fits}
use Rattle.checksum.specs.Checksum.{right_frame}
use Rattle.wire.specs.declared.Command.{Command}
use Rattle.status.specs.Status.{number_of, is_done}
use Rattle.status.specs.declared.Status.{Status}
use Rattle.status.specs.declared.Status.TheVariants.{Done}
use Rattle.status.proofs.Statuses.{by-status}
use Rattle.rules.specs.Run as running
use Rattle.rules.specs.Step.{State}
use Rattle.rules.specs.Direct.{directed}
use Rattle.rules.proofs.DirectCases.{by-command}
use Rattle.keeping.specs.Laws as keep-laws
use Rattle.keeping.proofs.Rules as keeping
use Rattle.serial.specs.Serial.{taken_of}
use Rattle.serial.specs.declared.NotTaken.{NotTaken}
use Rattle.serial.specs.declared.NotTaken.TheVariants.{NotOurs, Damaged}
use Rattle.rules.specs.Control as control
use Rattle.board.specs.Range.{registers_in_range}
use Rattle.rules.specs.Steps.{state_of, pins_of, with_state, steps, step_once}
use Rattle.board.specs.declared.Registers.{Registers}
use Rattle.rules.specs.Obey.{Outcome, direct, outcome, obeyed}
use Rattle.rules.proofs.ObeyCases.{by_mode}
use Rattle.rules.specs.Controlling.{controlled, judged_control, obeyed_control}
use Rattle.rules.proofs.ControllingCases.{by-judge}
use Rattle.rules.specs.Outcome.{done, refused}
use Rattle.rules.specs.Storing.{stored}
use Rattle.rules.proofs.StoringCases.{by-stored}
use Rattle.rules.specs.RunEvent as runs
use Rattle.rules.proofs.RunCases.{by-run}
use Rattle.rules.specs.Datagram.{Board, After, board, lent, unchanged, obeyed_by, received, datagram}
use Rattle.rules.proofs.DatagramCases.{by-datagram}
use Rattle.replying.specs.Reply.{byte_of, addresses, replied}
use Rattle.promises.specs.Commands.{Commands, InRange, carried_out}
use Rattle.promises.proofs.Kept.{with-state, sound, obeyed-kept}

-- ---- statuses
undone : (s : Status) → carried_out s ≡ false → is_done s ≡ false
undone =
    by-status (λ s. carried_out s ≡ false → is_done s ≡ false) (λ f. absurd (true≢false f)) (λ _. refl) (λ _. refl) (λ _. refl) (λ _. refl)
    (λ _. refl) (λ _. refl) (λ _. refl)

not_carried : (s : Status) → (number_of s ≡ 100 → ⊥) → (number_of s ≡ 101 → ⊥) → carried_out s ≡ false
not_carried =
    by-status (λ s. (number_of s ≡ 100 → ⊥) → (number_of s ≡ 101 → ⊥) → carried_out s ≡ false) (λ n _. absurd (n refl)) (λ _ k. absurd (k refl))
    (λ _ _. refl) (λ _ _. refl) (λ _ _. refl) (λ _ _. refl) (λ _ _. refl) (λ _ _. refl)

-- ---- a refused command
direct-value : (c : Command) (r : Registers) (m : List ℕ)
    → is_done (directed c r.core r.values r.outputs r.digital r.analog m).status ≡ false
    → (directed c r.core r.values r.outputs r.digital r.analog m).value ≡ word (pos 0)
direct-value c r m =
    by-command c r.core r.values r.outputs r.digital r.analog m (λ d. is_done d.status ≡ false → d.value ≡ word (pos 0))
    (record {
      flow = λ _. refl;
      not_through = λ _ _. refl;
      reading = λ _ f. absurd (true≢false f);
      done = λ _ e f. absurd (true≢false (sym e ∙ f));
      failed = λ _ _ _. refl;
    })

module _ (c : Command) (r : Registers) (p m : List ℕ) where
  abbrev Refused : Outcome → Type 0
  Refused o = carried_out o.status ≡ false → o ≡ outcome (refused o.status r) p m

  control-refused : Refused (outcome (obeyed_control c p r m).obeyed p (obeyed_control c p r m).store)
  control-refused =
      by-judge c p r m (λ o. Refused (outcome o.obeyed p o.store))
      (λ e f. absurd (true≢false (sym e ∙ undone (judged_control c r) f))) (λ _ _. refl)

  stored_refused : Refused (outcome (stored c r p).obeyed (stored c r p).program m)
  stored_refused = by-stored c r p (λ o. Refused (outcome o.obeyed o.program m)) (λ _ _. refl) (λ _ f. absurd (true≢false f))

  -- a command's outcome, from the state it leaves
  from : Status → Word → State → Outcome
  from s w x = record { registers = with_state x r; program = p; store = x.store; status = s; value = w }

  direct_refused : Refused (outcome (direct c r m).obeyed p (direct c r m).store)
  unfolding direct from
  direct_refused f =
      let l : keep-laws.Laws = keeping.laws in
      let d = directed c r.core r.values r.outputs r.digital r.analog m in
      let n = undone d.status f in
      let e = l.direct_refused c r.digital r.analog (state_of r m) n in
      ap (from d.status d.value) e ∙ ap (λ (w : Word). from d.status w (state_of r m)) (direct-value c r m n)

  command_refused : Refused (obeyed c r p m)
  command_refused = by_mode c r p m Refused (record { control = control-refused; storing = λ _. stored_refused; direct = direct_refused })

  single_step : c.number ≡ 130 → r.core.running ≡ false → r.download.on ≡ false
      → obeyed c r p m ≡ outcome (done Done c.value (step_once p r m).registers) p (step_once p r m).store
  unfolding obeyed obeyed_control controlled control.judged control.answer
  single_step e run on = simp (e, run, on)

-- ---- datagrams
not_ours : (bytes : List ℕ) (x : Board) → taken_of (byte_of x.registers.values 66) bytes ≡ Err NotOurs → (datagram bytes x).board ≡ x
unfolding received
not_ours bytes x e =
    by-datagram x (λ t y. (received t x).board ≡ x → y.board ≡ x)
    (record { nothing = λ _ _ _ _. refl; damaged = λ _ q. q; whole = λ _ q. q }) bytes
    (ap (λ (t : Result Command NotTaken). (received t x).board) e)

shut : (x : Board) (t : After) (a b : Bool) → a && b ≡ false → (pick a (pick b t (unchanged 23 x)) (unchanged 20 x)).board ≡ x
shut x t true true e = absurd (true≢false e)
shut x t true false e = refl
shut x t false b e = refl

datagram_shut : (bytes : List ℕ) (x : Board) → lent x.program x.store x.reply && registers_in_range x.registers ≡ false
    → (datagram bytes x).board ≡ x
unfolding datagram
datagram_shut bytes x e = shut x _ (lent x.program x.store x.reply) (registers_in_range x.registers) e

abbrev RefusedBy : Board → After → Type 0
RefusedBy x y =
    (y.status ≡ 100 → ⊥) → (y.status ≡ 101 → ⊥) → y.board ≡ board x.registers x.program x.store y.board.reply

obeyed-refused : (c : Command) (x : Board) → RefusedBy x (obeyed_by c x)
unfolding obeyed_by
obeyed-refused c x n k =
    let o = obeyed c x.registers x.program x.store in
    let b = replied x.reply (addresses x.registers.values) o.status c.number o.value in
    ap (λ (y : Outcome). board y.registers y.program y.store b)
    (command_refused c x.registers x.program x.store (not_carried o.status n k))

datagram_refused : (bytes : List ℕ) (x : Board) → RefusedBy x (datagram bytes x)
datagram_refused bytes x =
    by-datagram x (λ _. RefusedBy x) (record { nothing = λ _ _ _ _ _. refl; damaged = λ _ _ _. refl; whole = λ c. obeyed-refused c x }) bytes

-- the value of a command that was received is a word
Fits : Result Command NotTaken → Type 0
Fits (Err NotOurs) = Unit
Fits (Err (Damaged n)) = Unit
Fits (Ok c) = SFits w32 c.value.v

taken-fits : (ours : ℕ) (s : List ℕ) → AllBytes s → Fits (taken_of ours s)
unfolding taken_of Fits
taken-fits ours s b =
    picked Fits (eqb (length s) 9) _ _
    (λ _. picked Fits (eqb (get_or s 0 0) ours) _ _ (λ _. picked Fits (right_frame s) _ _ (λ _. read_fits s 4 b) tt) tt) tt

datagram_in_range : (bytes : List ℕ) (x : Board) → AllBytes bytes → AllBytes x.program → InRange x.registers
    → InRange (datagram bytes x).board.registers
unfolding obeyed_by Fits
datagram_in_range bytes x a b h =
    by-datagram x (λ t y. Fits t → InRange y.board.registers)
    (record {
      nothing = λ _ _ _ _. h;
      damaged = λ _ _. h;
      whole = λ c f. obeyed-kept c x.registers h x.program x.store f b;
    }) bytes
    (taken-fits (byte_of x.registers.values 66) bytes a)

-- ---- runs
run_in_range : (program : List ℕ) (budget : ℕ) (r : Registers) (m : List ℕ) → AllBytes program → InRange r
    → InRange (runs.run program budget r m).registers
unfolding steps
run_in_range program budget r m b h =
    let l : keep-laws.Laws = keeping.laws in
    let x = running.begun (state_of r m) in
    by-run program budget r m (λ a. InRange a.registers) (λ _. h)
    (λ _. with-state r (running.run false program (pins_of r) budget x).state h (l.run_sound false program (pins_of r) budget x b (sound r m h)))

run_refused : (program : List ℕ) (budget : ℕ) (r : Registers) (m : List ℕ)
    → eqb (length program) 7168 && eqb (length m) 364 && (registers_in_range r && leb budget 1000) ≡ false
    → ((runs.run program budget r m).registers ≡ r) × ((runs.run program budget r m).store ≡ m) × ((runs.run program budget r m).steps ≡ 0)
run_refused program budget r m e =
    by-run program budget r m (λ a. (a.registers ≡ r) × (a.store ≡ m) × (a.steps ≡ 0)) (λ _. (refl, refl, refl))
    (λ q. absurd (true≢false (sym q ∙ e)))

pub commands : Commands
commands =
    record {
      command_refused = command_refused;
      single_step = single_step;
      not_ours = not_ours;
      datagram_shut = datagram_shut;
      datagram_refused = datagram_refused;
      run_refused = run_refused;
      command_in_range = λ c r p m f b h. obeyed-kept c r h p m f b;
      datagram_in_range = datagram_in_range;
      run_in_range = run_in_range;
    }
