-- WAIT: what a step that the judge has let through finds. Motor, type and "every other negative value is 4" are the judge's (fields),
-- ETO, the address and the dropped wait the step's (flow).
use Rattle.std.specs.Prelude.{ℕ, Bool, true, ◌&&◌, ◌||◌, List, eqb, ltb, ℤ, pos, negsuc}
use Rattle.words.specs.Word.{pick, bits_of}
use Rattle.words.specs.declared.Word.{Word}
use Rattle.order.specs.Order.{same_w, in_range}
use Rattle.sheet.specs.Places.{axis_place}
use Rattle.values.specs.Values.{value_at}
use Rattle.waits.specs.declared.Wait.{Wait}

-- what a WAIT step comes to
pub data Waited : Type 0 where
  -- with 4: the accumulator is negative when TICKS -1 arms
  Refused : Waited
  Passed : Waited
  -- passed at count 0, without its condition
  TimedOut : Waited
  Holding : Wait → Waited

-- an axis parameter is 1
unfoldable pub is_on : List ℤ → ℕ → Bool
is_on values n = same_w (value_at values (axis_place n)).v (pos 1)

-- "1 POS (55 is 1), 2 REFSW (213 is 1), 3 LIMSW (211 or 212 is 1)"
unfoldable pub happened : ℕ → List ℤ → Bool
happened kind values =
    pick (eqb kind 1) (is_on values 55) (pick (eqb kind 2) (is_on values 213) (is_on values 211 || is_on values 212))

-- "TICKS -1 takes the accumulator"; negsuc 0 is -1
abbrev pub armed_from : ℕ → Word → Word → Word
armed_from kind value accumulator = pick (eqb kind 0 && same_w value.v (negsuc 0)) accumulator value

abbrev pub not_negative : ℤ → Bool
not_negative z = in_range (pos 0) (pos 2147483647) z

-- the count, and whether it was armed above 0
abbrev pub armed_with : ℤ → Wait
armed_with z = record { armed = true; count = bits_of z; timed = ltb 0 (bits_of z) }

-- "TICKS passes at count 0, the others when the condition holds, or at count 0 of an armed value above 0, then setting ETO ..
-- Condition and timeout together: the condition wins."
unfoldable pub tested : ℕ → List ℤ → Wait → Waited
tested kind values w =
    pick (eqb kind 0) (pick (eqb w.count 0) Passed (Holding w))
    (pick (happened kind values) Passed (pick (w.timed && eqb w.count 0) TimedOut (Holding w)))

-- "A WAIT step that finds nothing armed first arms the count, from the accumulator as it then is for -1; the same step then
-- tests"; "refused with 4 if negative when it arms"
unfoldable pub waited : ℕ → Word → Word → List ℤ → Wait → Waited
waited kind value accumulator values w =
    pick w.armed (tested kind values w)
    (pick (not_negative (armed_from kind value accumulator).v) (tested kind values (armed_with (armed_from kind value accumulator).v)) Refused)
