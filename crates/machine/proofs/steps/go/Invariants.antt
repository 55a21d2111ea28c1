-- `machine::steps::go`: The loop's invariant: what is left of the budget, from here on, comes to what all of it comes to.
use Prim.Native.Nat.{◌-◌}
use mathlib.Core.Path.{◌≡◌}
use mathlib.Core.Bool.{true}
use lib.ListN.{length}
use Rattle.status.specs.declared.Status.TheVariants.{Done}
use Rattle.cmd_turns.specs.declared.Left.TheVariants.{Goes}
use Rattle.cmd_turns.specs.Turn.{turn}
use Rattle.cmd_turns.specs.Deed.{seen}
use Rattle.reg_image.specs.Image.{registers_of, shaped}
use Rattle.machine.specs.Applied.{Kept}
use Rattle.machine.specs.Steps.{going}
use Rattle.machine.proofs.steps.go.Given as goal

abbrev pub invariant-loop-made : goal.invariant-loop-made
invariant-loop-made l =
    (going l.program l.first l.records (l.budget - l.made) (turn (seen l.accumulator l.there (registers_of l.image)) l.store l.status Goes)
    ≡ going l.program l.first l.records l.budget (turn (seen l.initial.accumulator l.address (registers_of l.initial.image)) l.initial.store Done Goes))
    × (shaped l.initial.image ≡ true → shaped l.image ≡ true)
    × (length l.store ≡ length l.initial.store)
    × Kept l.initial.image l.image
