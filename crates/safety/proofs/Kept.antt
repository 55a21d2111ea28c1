-- Every event that is quiet leaves the program standing where it may stand. Assumes nothing.
use Rattle.std.specs.Prelude.{Result}
use Prim.Native.Nat.{ℕ}
use native.Mathlib.Omega.{arith}
use mathlib.Core.Path.{◌≡◌, refl, sym, ap, ◌∙◌, subst}
use mathlib.Core.Bool.{true, false, not, ◌&&◌}
use mathlib.Core.List.{List}
use lib.Dec.{eqb, leb}
use lib.IntN.{pos}
use borrow.Author.Tests.{eqb-false, leb-true, not-false}
use Rattle.words.proofs.Bools.{not-other}
use Rattle.wire.specs.declared.Command.{Command}
use Rattle.order.specs.Order.{same_w}
use Rattle.order.proofs.Same.{same_number}
use Rattle.jumping.specs.Jump.{address_of}
use Rattle.sampling.specs.declared.Sample.{Sample}
use Rattle.status.specs.Status.{number_of, is_done}
use Rattle.status.proofs.Statuses.{number-done, all_right}
use Rattle.serial.specs.Serial.{taken_of}
use Rattle.serial.specs.declared.NotTaken.{NotTaken}
use Rattle.points.specs.Reach.{Safe}
use Rattle.rules.specs.Deciding.{decided, worked}
use Rattle.rules.specs.Control.{judged, begins}
use Rattle.rules.proofs.ControlCases as control
use Rattle.rules.proofs.DirectCases as directing
use Rattle.rules.specs.Run.{begun, run}
use Rattle.rules.specs.RunLaws as running
use Rattle.rules.proofs.Counts as counts
use Rattle.board.specs.Registers.{powered}
use Rattle.rules.specs.Steps.{state_of, pins_of, steps, step_once}
use Rattle.board.specs.declared.Registers.{Registers}
use Rattle.rules.specs.Events as events
use Rattle.rules.proofs.EventCases.{by-power-up, by-sample, by-tick}
use Rattle.rules.specs.RunEvent as runs
use Rattle.rules.proofs.RunCases.{by-run}
use Rattle.rules.specs.Storing as storing
use Rattle.rules.proofs.StoringCases.{by-stored}
use Rattle.rules.specs.Controlling as controlling
use Rattle.rules.proofs.ControllingCases.{by-command, by-judge}
use Rattle.rules.specs.Obey as commands
use Rattle.rules.proofs.ObeyCases.{by_mode}
use Rattle.replying.specs.Reply.{byte_of}
use Rattle.rules.specs.Datagram.{Board, board, After, obeyed_by, datagram}
use Rattle.rules.proofs.DatagramCases.{by-datagram}
use Rattle.leading.specs.Leading.{way_at}
use Rattle.safety.specs.Events.{World, Event, after, carries, from_another, runs_from_another}
use Rattle.safety.specs.Events as trace
use Rattle.safety.proofs.Stands as stands
use Rattle.safety.proofs.Stands.{Stands}
use Rattle.safety.proofs.Steps.{Standing, place_kept, step-stands, walked-stands}

-- ---- the program stands where it may stand
abbrev pub Stood : List ℕ → Registers → Type 0
Stood program r = Stands program r.core.address r.core.depth r.entries

pub powered-stood : (program m : List ℕ) → Stood program (powered m)
unfolding powered
powered-stood program m = stands.begun program

-- ---- power-up, samples and ticks
module _ (program : List ℕ) (r : Registers) (h : Stood program r) where
  abbrev Left : events.Outcome → Type 0
  Left o = Stood program o.registers

  up-stood : (m : List ℕ) → Left (events.powered_up m r)
  up-stood m = by-power-up r Left m (powered-stood program m) h

  sample-stood : (s : Sample) → Left (events.sampled s r)
  sample-stood s = by-sample r Left s (λ _. h) h h

  tick-stood : Left (events.ticked r)
  tick-stood = by-tick r Left h h

-- ---- runs
module _ (program : List ℕ) (safe : Safe (way_at program)) (r : Registers) (h : Stood program r) where
  steps-stood : (budget : ℕ) (m : List ℕ) → Stood program (steps false program budget r m).registers
  unfolding steps
  steps-stood budget m =
      let l : running.Laws = counts.laws in
      subst (λ x. Standing program x.state) (sym (l.run_steps false program (pins_of r) budget (state_of r m)))
      (walked-stands program safe (pins_of r) (run false program (pins_of r) budget (begun (state_of r m))).steps (begun (state_of r m)) h)

  run-stood : (budget : ℕ) (m : List ℕ) → Stood program (runs.run program budget r m).registers
  run-stood budget m = by-run program budget r m (λ a. Stood program a.registers) (λ _. h) (λ _. steps-stood budget m)

-- ---- control commands
pub zero-address : address_of (pos 0) ≡ 0
unfolding address_of
zero-address = refl

module _ (c : Command) (r : Registers) where
  run-kind : is_done (controlling.judged_control c r) ≡ true → c.number ≡ 129 → leb c.kind 1 ≡ true
  unfolding judged
  run-kind h e =
      (all_right (not r.download.on) true (leb c.kind 1) (begins c.kind c.value.v) true (rw e at h)).2

  -- 129 that is carried out and names no other address names 0
  names-zero : is_done (controlling.judged_control c r) ≡ true → c.number ≡ 129 → eqb c.kind 0 ≡ false → from_another c ≡ false
      → address_of c.value.v ≡ 0
  names-zero h e k f =
      let one : c.kind ≡ 1 = let l = leb-true c.kind 1 (run-kind h e) in let n = eqb-false c.kind 0 k in omega (arith, l, n) in
      let named : eqb c.number 129 && eqb c.kind 1 ≡ true = simp (e, one) in
      let same = not-false (same_w c.value.v (pos 0)) (not-other (eqb c.number 129 && eqb c.kind 1) (not (same_w c.value.v (pos 0))) named f) in
      ap address_of (same_number c.value.v (pos 0) same) ∙ zero-address

module _ (program : List ℕ) (c : Command) (r : Registers) (h : Stood program r) where
  placed-stood : is_done (controlling.judged_control c r) ≡ true → from_another c ≡ false → Stood program (controlling.placed c r)
  unfolding controlling.placed
  placed-stood d f =
      control.by-command c r.core r.download r.entries (λ o. Stands program o.core.address o.core.depth o.entries)
      (record {
        stop = h;
        go = h;
        go_from = λ e k. rw (names-zero c r d e k f) (stands.begun program);
        reset = stands.begun program;
        start = h;
        end = h;
        other = h;
      })

  module _ (safe : Safe (way_at program)) (m : List ℕ) where
    stepped-stood : Stood program (step_once program r m).registers
    unfolding step_once
    stepped-stood = step-stands program safe (state_of r m) h (pins_of r)

    defaults-stood : Stood program (controlling.defaults r m).registers
    unfolding controlling.defaults
    defaults-stood = h

    control-stood : eqb (number_of (controlling.obeyed_control c program r m).obeyed.status) 100 && from_another c ≡ false
        → Stood program (controlling.obeyed_control c program r m).obeyed.registers
    control-stood =
        let s = controlling.judged_control c r in
        by-judge c program r m (λ k. eqb (number_of k.obeyed.status) 100 && from_another c ≡ false → Stood program k.obeyed.registers)
        (λ d q. let f = not-other (eqb (number_of s) 100) (from_another c) (number-done s ∙ d) q in
        by-command c program r m (λ b. Stood program b.registers)
        (record { step = stepped-stood; defaults = defaults-stood; up = powered-stood program m; other = placed-stood d f }))
        (λ _ _. h)

-- ---- every command
module _ (c : Command) (r : Registers) (p m : List ℕ) (safe : Safe (way_at p)) (h : Stood p r) where
  stored-stood : Stood p (storing.stored c r p).obeyed.registers
  stored-stood = by-stored c r p (λ k. Stood p k.obeyed.registers) (λ _. h) (λ _. h)

  direct-stood : Stood p (commands.direct c r m).obeyed.registers
  unfolding commands.direct worked
  direct-stood =
      let moved = place_kept (λ a d. Stands p a d r.entries) (decided c r.core r.values) r.core h in
      directing.by-command c r.core r.values r.outputs r.digital r.analog m (λ d. Stands p d.core.address d.core.depth r.entries)
      (record { flow = h; not_through = λ _. h; reading = λ _. h; done = λ _ _. moved; failed = λ _ _. moved })

  obeyed-stood : eqb (number_of (commands.obeyed c r p m).status) 100 && from_another c ≡ false → Stood p (commands.obeyed c r p m).registers
  obeyed-stood =
      by_mode c r p m (λ o. eqb (number_of o.status) 100 && from_another c ≡ false → Stood p o.registers)
      (record { control = control-stood p c r h safe m; storing = λ _ _. stored-stood; direct = λ _. direct-stood })

-- ---- datagrams
module _ (x : Board) (safe : Safe (way_at x.program)) (h : Stood x.program x.registers) where
  abbrev Told : Result Command NotTaken → After → Type 0
  Told t a = eqb a.status 100 && carries from_another t ≡ false → Stood x.program a.board.registers

  told-stood : (bytes : List ℕ) → Told (taken_of (byte_of x.registers.values 66) bytes) (datagram bytes x)
  unfolding obeyed_by
  told-stood =
      by-datagram x Told
      (record {
        nothing = λ _ _ _ _. h;
        damaged = λ _ _. h;
        whole = λ c. obeyed-stood c x.registers x.program x.store safe h;
      })

-- ---- every event
pub event-stood : (w : World) (e : Event) → Safe (way_at w.program) → Stood w.program w.registers → runs_from_another w e ≡ false
    → Stood w.program (after w e).registers
unfolding after runs_from_another
event-stood w (trace.datagram bytes store reply) safe h q = told-stood (board w.registers w.program store reply) safe h bytes q
event-stood w (trace.sample s) safe h q = sample-stood w.program w.registers h s
event-stood w trace.tick safe h q = tick-stood w.program w.registers h
event-stood w (trace.run budget store) safe h q = run-stood w.program safe w.registers h budget store
event-stood w (trace.power-up store) safe h q = up-stood w.program w.registers h store
