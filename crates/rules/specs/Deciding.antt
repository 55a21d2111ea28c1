-- What a command that changes something does, in direct mode or in a step, by its number, once the judge has let it through.
use Rattle.std.specs.Prelude.{ℕ, List, eqb, ℤ}
use Rattle.words.specs.Word.{pick}
use Rattle.words.specs.declared.Word.{Word}
use Rattle.wire.specs.declared.Command.{Command}
use Rattle.order.specs.Order.{compared_w}
use Rattle.sheet.specs.Places.{axis_place}
use Rattle.settings.specs.Settings.{bank_place}
use Rattle.registers.specs.declared.Core.{Core}
use Rattle.flags.specs.declared.Flags.{Flags}
use Rattle.pins.specs.Pins.{bit_of}
use Rattle.rules.specs.Effects.{Work, applied, Effect, Restore, Output, Last}
use Rattle.rules.specs.Motion.{parameter, right_within, left_within, stop, move_to}
use Rattle.rules.specs.Assigning.{assign, take, keep}
use Rattle.rules.specs.Numbers.{calc, calcx, clear}

-- 1 ROR, 2 ROL, 3 MST, 4 MVP, 5 SAP, 7 STAP, 8 RSAP, 9 SGP, 11 STGP, 12 RSGP, 14 SIO, 19 CALC, 20 COMP, 33 CALCX, 34 AAP, 35 AGP
-- and 36 CLE
unfoldable pub decided_by : Command → Word → Word → Flags → List ℤ → Effect
decided_by c accumulator x flags values =
    pick (eqb c.number 1) (right_within (parameter 43 values).v c.value.v)
    (pick (eqb c.number 2) (left_within (parameter 43 values).v c.value.v)
    (pick (eqb c.number 3) stop
    (pick (eqb c.number 4) (move_to c.kind c.value values)
    (pick (eqb c.number 5) (assign (axis_place c.kind) c.value values)
    (pick (eqb c.number 7) (keep (axis_place c.kind) values)
    (pick (eqb c.number 8) (Restore (axis_place c.kind))
    (pick (eqb c.number 9) (assign (bank_place c.motor c.kind) c.value values)
    (pick (eqb c.number 11) (keep (bank_place c.motor c.kind) values)
    (pick (eqb c.number 12) (Restore (bank_place c.motor c.kind))
    (pick (eqb c.number 14) (Output c.kind (bit_of c.value.v))
    (pick (eqb c.number 19) (calc c.kind c.value accumulator x)
    (pick (eqb c.number 20) (Last (compared_w accumulator.v c.value.v))
    (pick (eqb c.number 33) (calcx c.kind accumulator x)
    (pick (eqb c.number 34) (take (axis_place c.kind) accumulator values)
    (pick (eqb c.number 35) (take (bank_place c.motor c.kind) accumulator values)
    -- 36
    (clear c.kind flags))))))))))))))))

-- from the accumulator, X and the flags
abbrev pub decided : Command → Core → List ℤ → Effect
decided c core values = decided_by c core.accumulator core.x core.flags values

unfoldable pub worked : Command → Core → List ℤ → List ℕ → List ℕ → Work
worked c core values outputs store = applied (decided c core values) core values outputs store
