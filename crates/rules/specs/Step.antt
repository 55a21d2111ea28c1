-- "Program steps".
use Rattle.std.specs.Prelude.{ℕ, List, leb, ℤ}
use Rattle.words.specs.Word.{pick}
use Rattle.wire.specs.declared.Command.{Command}
use Rattle.store.specs.Store.{record_at}
use Rattle.registers.specs.Registers.{with_numbers, next, stopped}
use Rattle.registers.specs.declared.Core.{Core}
use Rattle.status.specs.Status.{is_done, is_unknown}
use Rattle.status.specs.declared.Status.{Status}
use Rattle.status.specs.declared.Status.TheVariants.{Done, Value}
use Rattle.judge.specs.Judge.{judged, is_flow, is_reading}
use Rattle.rules.specs.Flow.{Flow, flowed}
use Rattle.rules.specs.Reading.{read}
use Rattle.rules.specs.Effects.{Work}
use Rattle.rules.specs.Deciding.{worked}

-- what a step can change
pub record State : Type 0 where
  pub core : Core
  pub entries : List ℕ
  pub values : List ℤ
  pub outputs : List ℕ
  pub store : List ℕ

abbrev pub state : Core → List ℕ → List ℤ → List ℕ → List ℕ → State
state c e v o m = record { core = c; entries = e; values = v; outputs = o; store = m }

-- what it can read beside: the inputs
pub record Pins : Type 0 where
  pub digital : List ℕ
  pub analog : List ℤ

abbrev pub pins : List ℕ → List ℤ → Pins
pins d a = record { digital = d; analog = a }

-- a state and a status
pub record After : Type 0 where
  pub state : State
  pub status : Status

abbrev pub after : Status → State → After
after s x = record { state = x; status = s }

-- the scalars changed, nothing else
abbrev pub only : Core → State → State
only c x = state c x.entries x.values x.outputs x.store

-- "GAP, GGP, GIO .. load it in a program"
abbrev pub loaded : Command → Core → List ℤ → List ℕ → List ℕ → List ℤ → Core
loaded r c values outputs digital analog = next (with_numbers (read r c values outputs digital analog) c.x c)

-- a command of the program's flow, one that reads, or one that works and goes on to the next record
abbrev pub after_flow : Flow → State → After
after_flow f x = after f.status (state f.core f.entries x.values x.outputs x.store)

abbrev pub after_work : Work → State → After
after_work w x = after w.status (state (next w.core) x.entries w.values w.outputs w.store)

unfoldable pub carried : Command → Pins → State → After
carried r p x =
    pick (is_flow r.number) (after_flow (flowed r x.core x.entries x.values) x)
    (pick (is_reading r.number)
    (after Done (only (loaded r x.core x.values x.outputs p.digital p.analog) x))
    (after_work (worked r x.core x.values x.outputs x.store) x))

-- "Commands not listed above, and 128 up: status 2, stops .. the address stays. Other refused steps change only the address, by one,
-- and drop a wait." "A step keeps this order from 2 on, but CSUB's 6 comes after its value": the judge has 2, 4, 3, 4 of the bytes, and
-- what is carried refuses with 6, 4 and 5 of the registers.
unfoldable pub obeyed : Command → Pins → State → After
obeyed r p x =
    pick (is_unknown (judged r)) (after (judged r) (only (stopped x.core) x))
    (pick (is_done (judged r)) (carried r p x) (after (judged r) (only (next x.core) x)))

-- "Address 1,024: status 4, stops .. the address stays"
unfoldable pub step : List ℕ → Pins → State → After
step program p x =
    pick (leb 1024 x.core.address) (after Value (only (stopped x.core) x))
    (obeyed (record_at program x.core.address) p x)
