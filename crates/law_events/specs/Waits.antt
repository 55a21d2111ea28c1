-- "a WAIT holds", by the WAIT and what it waits for.
use Rattle.std.specs.Prelude.{ℕ, Bool, not, ◌&&◌, ◌||◌, List, eqb, leb}
use Rattle.words.specs.Word.{pick}
use Rattle.wire.specs.declared.Command.{Command}
use Rattle.store.specs.Store.{record_at}
use Rattle.waits.specs.declared.Wait.{Wait}
use Rattle.waiting.specs.Waiting.{happened, armed_from, not_negative, armed_with}
use Rattle.status.specs.Status.{is_done}
use Rattle.judge.specs.Judge.{judged}
use Rattle.rules.specs.Step.{State}

-- "A WAIT step that finds nothing armed first arms the count, from the accumulator as it then is for -1; the same step then tests":
-- the wait that it tests
abbrev pub tests : Command → State → Wait
tests r x = pick x.core.wait.armed x.core.wait (armed_with (armed_from r.kind r.value x.core.accumulator).v)

-- "refused with 4 if negative when it arms"
abbrev pub arms : Command → State → Bool
arms r x = x.core.wait.armed || not_negative (armed_from r.kind r.value x.core.accumulator).v

-- "TICKS passes at count 0, the others when the condition holds, or at count 0 of an armed value above 0"
abbrev pub passes : Command → State → Bool
passes r x =
    pick (eqb r.kind 0) (eqb (tests r x).count 0)
    (happened r.kind x.values || ((tests r x).timed && eqb (tests r x).count 0))

-- the record is a WAIT that the judge lets through, armed, and what it waits for has not come
abbrev pub holds : Command → State → Bool
holds r x = is_done (judged r) && (eqb r.number 27 && (arms r x && not (passes r x)))

-- .. the record at the program address, which is none past program memory
abbrev pub wait_holds : List ℕ → State → Bool
wait_holds program x = not (leb 1024 x.core.address) && holds (record_at program x.core.address) x
