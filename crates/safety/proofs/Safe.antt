-- Demand 3. Assumes nothing.
use Prim.Native.Nat.{ℕ, ◌<◌}
use mathlib.Core.Path.{◌≡◌, sym, ◌∙◌, subst}
use mathlib.Core.Bool.{true}
use mathlib.Core.List.{List}
use Rattle.points.specs.Reach.{Safe}
use Rattle.rules.specs.Step.{State}
use Rattle.rules.specs.Run.{begun}
use Rattle.rules.specs.Steps.{state_of, pins_of}
use Rattle.leading.specs.Leading.{way_at}
use Rattle.checking.specs.Check.{Passed, Checked, answer_of}
use Rattle.safety.specs.Events.{World, Event, after, begins_program, after_all, Quiet, MakesStep}
use Rattle.safety.specs.Safety.{Fine, Safety}
use Rattle.safety.proofs.Named.{named}
use Rattle.safety.proofs.Stands.{through}
use Rattle.safety.proofs.Steps.{walked-stands, step-fine}
use Rattle.safety.proofs.Kept.{Stood, event-stood}
use Rattle.safety.proofs.Begun.{Begun, event-begun}

-- a row of quiet events keeps a program begun
row-begun : (program : List ℕ) → Safe (way_at program) → {w : World} {es : List Event} → Quiet w es → Begun program w → Begun program (after_all w es)
row-begun program safe Quiet.none b = b
row-begun program safe (Quiet.also {w} {e} {es} k q rest) b =
    let here : Stood w.program w.registers = subst (λ p. Stood p w.registers) (sym b.records) b.stands in
    let safe-here : Safe (way_at w.program) = subst (λ p. Safe (way_at p)) (sym b.records) safe in
    let next = event-stood w e safe-here here q in
    row-begun program safe rest
    (record { records = k ∙ b.records; stands = subst (λ p. Stood p (after w e).registers) b.records next })

makes-fine : (w : World) → Safe (way_at w.program) → Stood w.program w.registers → {f : Event} {x : State} → MakesStep w f x
    → Fine w.program (pins_of w.registers) x
makes-fine w safe h (MakesStep.in_run {budget} {store} j l) =
    let p = pins_of w.registers in
    let x = begun (state_of w.registers store) in
    step-fine w.program safe _ (walked-stands w.program safe p j x h) p
makes-fine w safe h (MakesStep.alone {bytes} {store} {reply} q) =
    step-fine w.program safe (state_of w.registers store) h (pins_of w.registers)

module _ (w : World) (e : Event) (es : List Event) (c : Checked w.program Passed (answer_of Passed)) (b : begins_program w e ≡ true)
    (q : Quiet (after w e) es) where
  abbrev end : World
  end = after_all (after w e) es

  kept : Begun w.program end
  kept = row-begun w.program c.0.1 q (event-begun w e b)

  here : Stood end.program end.registers
  here = subst (λ p. Stood p end.registers) (sym kept.records) kept.stands

  safe-here : Safe (way_at end.program)
  safe-here = subst (λ p. Safe (way_at p)) (sym kept.records) c.0.1

  steps : (f : Event) (x : State) → MakesStep end f x → Fine w.program (pins_of end.registers) x
  steps f x m = subst (λ p. Fine p (pins_of end.registers) x) kept.records (makes-fine end safe-here here m)

  inside : end.registers.core.address < 1024
  inside = (through end.program safe-here end.registers.core.address end.registers.core.depth end.registers.entries here).inside

pub safety : Safety
safety = record { steps = λ w e es f x c b q. steps w e es c b q f x; inside = inside; named = named }
