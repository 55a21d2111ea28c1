-- An event that begins the program leaves it at its first point, and its records as they were. Assumes nothing.
use Rattle.std.specs.Prelude.{Result}
use Prim.Native.Nat.{ℕ, ◌≤◌}
use native.Mathlib.Omega.{arith}
use mathlib.Core.Path.{◌≡◌, refl, sym, ap, ◌∙◌}
use mathlib.Core.Bool.{true, true≢false, false≢true, ◌&&◌, ◌||◌}
use mathlib.Core.List.{List}
use lib.Dec.{eqb}
use lib.IntN.{pos}
use borrow.Author.Tests.{eqb-true, le-leb}
use Rattle.words.proofs.Bools.{each, or_else}
use Rattle.wire.specs.declared.Command.{Command}
use Rattle.order.specs.Order.{same_w}
use Rattle.order.proofs.Same.{same_number}
use Rattle.jumping.specs.Jump.{address_of}
use Rattle.status.specs.Status.{number_of}
use Rattle.status.proofs.Statuses.{number-done}
use Rattle.serial.specs.Serial.{taken_of}
use Rattle.serial.specs.declared.NotTaken.{NotTaken}
use Rattle.rules.specs.Control as control
use Rattle.board.specs.declared.Registers.{Registers}
use Rattle.rules.specs.Events as events
use Rattle.rules.proofs.EventCases.{by-power-up}
use Rattle.rules.specs.Controlling as controlling
use Rattle.rules.proofs.ControllingCases.{by-judge}
use Rattle.rules.specs.Obey as commands
use Rattle.replying.specs.Reply.{byte_of}
use Rattle.rules.specs.Datagram.{Board, board, After, obeyed_by, datagram}
use Rattle.rules.proofs.DatagramCases.{by-datagram}
use Rattle.safety.specs.Events.{World, Event, kept, after, carries, begins_by, begins_program}
use Rattle.safety.specs.Events as trace
use Rattle.safety.proofs.Stands as stands
use Rattle.safety.proofs.Kept.{Stood, powered-stood, zero-address}

-- the records as they were, and the program at its first point
pub record Begun (program : List ℕ) (w : World) : Type 0 where
  pub records : w.program ≡ program
  pub stands : Stood program w.registers

module _ (program : List ℕ) (c : Command) (r : Registers) (m : List ℕ) where
  abbrev Standing : Type 0
  Standing = Stood program (controlling.controlled c program r m).registers

  by-131 : c.number ≡ 131 → Standing
  unfolding controlling.controlled controlling.placed control.controlled
  by-131 q = rw q (stands.begun program)

  by-129 : c.number ≡ 129 → c.kind ≡ 1 → address_of c.value.v ≡ 0 → Standing
  unfolding controlling.controlled controlling.placed control.controlled control.begun
  by-129 q k z = rw (q, k, z) (stands.begun program)

  by_255 : c.number ≡ 255 → Standing
  unfolding controlling.controlled
  by_255 q = rw q (powered-stood program m)

  -- the three commands, all of them control commands
  by-command : (P : Type 0) → begins_by c ≡ true → (128 ≤ c.number → Standing → P) → P
  by-command P b f =
      let n = c.number in
      let run-0 = (eqb n 129 && eqb c.kind 1) && same_w c.value.v (pos 0) in
      or_else (eqb n 131 || run-0) (eqb n 255) b
      (λ d. or_else (eqb n 131) run-0 d
      (λ e. let q = eqb-true n 131 e in f (omega (arith, q)) (by-131 q))
      (λ e. let t = each (eqb n 129 && eqb c.kind 1) (same_w c.value.v (pos 0)) e in
      let u = each (eqb n 129) (eqb c.kind 1) t.0 in
      let q = eqb-true n 129 u.0 in
      f (omega (arith, q)) (by-129 q (eqb-true c.kind 1 u.1) (ap address_of (same_number c.value.v (pos 0) t.1) ∙ zero-address))))
      (λ e. let q = eqb-true n 255 e in f (omega (arith, q)) (by_255 q))

  control-begun : Standing → eqb (number_of (controlling.obeyed_control c program r m).obeyed.status) 100 ≡ true
      → Stood program (controlling.obeyed_control c program r m).obeyed.registers
  control-begun h =
      let s = controlling.judged_control c r in
      by-judge c program r m (λ k. eqb (number_of k.obeyed.status) 100 ≡ true → Stood program k.obeyed.registers)
      (λ _ _. h) (λ d e. absurd (true≢false (sym e ∙ number-done s ∙ d)))

  abbrev Obeyed : commands.Outcome → Type 0
  Obeyed o = eqb (number_of o.status) 100 ≡ true → Begun program (trace.world o.program o.registers)

  command-begun : begins_by c ≡ true → Obeyed (commands.obeyed c r program m)
  unfolding commands.obeyed
  command-begun b =
      by-command (Obeyed (commands.obeyed c r program m)) b
      (λ l h. simp (le-leb 128 c.number l) (λ e. record { records = refl; stands = control-begun h e }))

module _ (x : Board) where
  abbrev Told : Result Command NotTaken → After → Type 0
  Told t a = eqb a.status 100 && carries begins_by t ≡ true → Begun x.program (kept a.board)

  told-begun : (bytes : List ℕ) → Told (taken_of (byte_of x.registers.values 66) bytes) (datagram bytes x)
  unfolding obeyed_by
  told-begun =
      by-datagram x Told
      (record {
        nothing = λ t n e q. absurd (false≢true (sym e ∙ (each (eqb n 100) (carries begins_by t) q).0));
        damaged = λ _ q. absurd (false≢true q);
        whole = λ c q.
            let t = each (eqb (number_of (commands.obeyed c x.registers x.program x.store).status) 100) (begins_by c) q in
            command-begun x.program c x.registers x.store t.1 t.0;
      })

up-begun : (program m : List ℕ) (r : Registers) → eqb (events.powered_up m r).status 100 ≡ true → Stood program (events.powered_up m r).registers
up-begun program m r =
    by-power-up r (λ o. eqb o.status 100 ≡ true → Stood program o.registers) m (λ _. powered-stood program m) (λ e. absurd (false≢true e))

pub event-begun : (w : World) (e : Event) → begins_program w e ≡ true → Begun w.program (after w e)
unfolding begins_program after
event-begun w (trace.datagram bytes store reply) q = told-begun (board w.registers w.program store reply) bytes q
event-begun w (trace.sample s) q = absurd (false≢true q)
event-begun w trace.tick q = absurd (false≢true q)
event-begun w (trace.run budget store) q = absurd (false≢true q)
event-begun w (trace.power-up store) q = record { records = refl; stands = up-begun w.program store w.registers q }
