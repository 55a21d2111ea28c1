-- CALC, CALCX and CLE.
use Rattle.std.specs.Prelude.{ℕ, eqb}
use Rattle.words.specs.Word.{pick, word}
use Rattle.words.specs.declared.Word.{Word}
use Rattle.dividing.specs.Divide.{Answer}
use Rattle.calculating.specs.Calculate.{calculated}
use Rattle.flags.specs.declared.Flags.{Flags}
use Rattle.status.specs.declared.Status.TheVariants.{Value}
use Rattle.rules.specs.Effects.{Effect, Refused, Numbers, Clear}

-- "zero divisor 4"
unfoldable pub into_accumulator : Answer → Word → Effect
into_accumulator a x = pick (eqb a.status 100) (Numbers (word a.value) x) (Refused Value)

-- "NOT of the operand (CALC: the accumulator ..). CALC 9 loads the accumulator."
unfoldable pub calc : ℕ → Word → Word → Word → Effect
calc kind value accumulator x =
    pick (eqb kind 9) (Numbers value x)
    (into_accumulator (calculated kind accumulator.v value.v accumulator.v) x)

-- "(.. CALCX: X) .. CALCX 9 copies the accumulator to X, 10 swaps."
unfoldable pub calcx : ℕ → Word → Word → Effect
calcx kind accumulator x =
    pick (eqb kind 9) (Numbers accumulator accumulator)
    (pick (eqb kind 10) (Numbers x accumulator)
    (into_accumulator (calculated kind accumulator.v x.v x.v) x))

-- "36 CLE (0 ALL, 1 ETO, 2 EAL, 3 EDV, 4 EPO)"
abbrev pub cleared : ℕ → ℕ → ℕ → ℕ
cleared kind own flag = pick (eqb kind 0) 0 (pick (eqb kind own) 0 flag)

unfoldable pub clear : ℕ → Flags → Effect
clear kind f =
    Clear (record { eto = cleared kind 1 f.eto; eal = cleared kind 2 f.eal; edv = cleared kind 3 f.edv; epo = cleared kind 4 f.epo })
