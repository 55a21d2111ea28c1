-- Demand 3 of the product: a passed program begun at 0, while its records are not written and no command runs it from another named
-- address, under all other commands, samples and ticks never meets an unknown command, never leaves program memory, never has a jump,
-- call or return ignored; its only refusals are those on 01's list of things known only while running.
use Rattle.std.specs.Prelude.{ℕ, ◌+◌, ◌-◌, ◌<◌, ◌≡◌, Bool, true, false, ◌||◌, List, eqb, ℤ, pos, get_or, set}
use Rattle.wire.specs.declared.Command.{Command}
use Rattle.store.specs.Store.{record_at}
use Rattle.jumping.specs.Jump.{jumps}
use Rattle.status.specs.declared.Status.TheVariants.{Done, Unknown}
use Rattle.rules.specs.Step.{State, Pins, step}
use Rattle.rules.specs.Steps.{pins_of}
use Rattle.points.specs.Points.{point}
use Rattle.leading.specs.Leading.{status_at}
use Rattle.checking.specs.Check.{Passed, Checked, answer_of}
use Rattle.safety.specs.Events.{World, Event, after, begins_program, after_all, Quiet, MakesStep}
use Rattle.safety.specs.Listed.{Listed}

-- 21 JC, 22 JA, 23 CSUB, 24 RSUB
abbrev pub turns : ℕ → Bool
turns n = eqb n 21 || eqb n 22 || eqb n 23 || eqb n 24

-- a step leaves the program at this address, with this call stack
pub record At (y : State) (a : ℤ) (e : List ℕ) (d : ℕ) : Type 0 where
  pub address : pos y.core.address ≡ a
  pub entries : y.entries ≡ e
  pub depth : y.core.depth ≡ d

-- JC's condition, by its type
abbrev pub taken : Command → State → Bool
taken r x = jumps r.kind x.core.accumulator.v x.core.last x.core.flags

-- where a jump, call or return goes
pub record Goes (r : Command) (x y : State) : Type 0 where
  -- JA to its target
  pub ja : r.number ≡ 22 → At y r.value.v x.entries x.core.depth
  -- JC to its target where the condition holds, else to the next address
  pub jc : r.number ≡ 21 → taken r x ≡ true → At y r.value.v x.entries x.core.depth
  pub jc_not : r.number ≡ 21 → taken r x ≡ false → At y (pos (x.core.address + 1)) x.entries x.core.depth
  -- CSUB to its target, with the next address put on the stack, which has room for it
  pub csub : r.number ≡ 23 → At y r.value.v (set x.entries x.core.depth (x.core.address + 1)) (x.core.depth + 1)
  pub room : r.number ≡ 23 → x.core.depth < 8
  -- RSUB to the last address put on the stack, which has one, and whose entry becomes 0
  pub rsub : r.number ≡ 24
      → At y (pos (get_or x.entries (x.core.depth - 1) 0)) (set x.entries (x.core.depth - 1) 0) (x.core.depth - 1)
  pub entry : r.number ≡ 24 → 0 < x.core.depth

pub record Fine (program : List ℕ) (p : Pins) (x : State) : Type 0 where
  -- it never leaves program memory
  pub inside : x.core.address < 1024
  -- it never meets an unknown command
  pub known : (step program p x).status ≡ Unknown → ⊥
  -- it never has a jump, call or return ignored
  pub obeyed : turns (record_at program x.core.address).number ≡ true → (step program p x).status ≡ Done
  -- and it goes where that says
  pub goes : Goes (record_at program x.core.address) x (step program p x).state
  -- its only refusals are those on 01's list
  pub listed : Listed (record_at program x.core.address) (step program p x).status

pub record Safety : Type 0 where
  -- for all records that the check passes and all registers, every event that begins the program, every row of quiet events after that,
  -- and every step that the next event makes
  pub steps : (w : World) (e : Event) (es : List Event) (f : Event) (x : State) → Checked w.program Passed (answer_of Passed)
      → begins_program w e ≡ true → Quiet (after w e) es → MakesStep (after_all (after w e) es) f x
      → Fine w.program (pins_of (after_all (after w e) es).registers) x
  -- and the program address stays within program memory between the events
  pub inside : (w : World) (e : Event) (es : List Event) → Checked w.program Passed (answer_of Passed)
      → begins_program w e ≡ true → Quiet (after w e) es → (after_all (after w e) es).registers.core.address < 1024
  -- the status that the check names of a bad point is that of a step there, whatever the other registers and the parameter store are
  pub named : (program : List ℕ) (p : Pins) (x : State) → (status_at program (point x.core.address x.core.depth) ≡ Done → ⊥)
      → (step program p x).status ≡ status_at program (point x.core.address x.core.depth)
