-- "Direct commands": refusals in order, then what the command does and answers.
use Rattle.std.specs.Prelude.{ℕ, List, eqb, ℤ, pos}
use Rattle.words.specs.Word.{pick, word}
use Rattle.words.specs.declared.Word.{Word}
use Rattle.wire.specs.declared.Command.{Command}
use Rattle.registers.specs.declared.Core.{Core}
use Rattle.status.specs.Status.{is_done}
use Rattle.status.specs.declared.Status.{Status}
use Rattle.status.specs.declared.Status.TheVariants.{Done, Unavailable}
use Rattle.judge.specs.Judge.{judged, is_flow, is_reading}
use Rattle.rules.specs.Reading.{read}
use Rattle.rules.specs.Effects.{Work}
use Rattle.rules.specs.Deciding.{worked}

-- what a command leaves of the scalars, its status, and the value of its reply
pub record Directed : Type 0 where
  pub core : Core
  pub status : Status
  pub value : Word

-- .. and of the arrays
pub record Direct : Type 0 where
  pub core : Core
  pub values : List ℤ
  pub outputs : List ℕ
  pub store : List ℕ
  pub status : Status
  pub value : Word

abbrev pub direct : Directed → List ℤ → List ℕ → List ℕ → Direct
direct r v o m =
    record { core = r.core; values = v; outputs = o; store = m; status = r.status; value = r.value }

-- "value 0; nothing changes"
abbrev pub refused : Status → Core → Directed
refused s c = record { core = c; status = s; value = word (pos 0) }

abbrev pub answered : Status → Word → Core → Directed
answered s w c = record { core = c; status = s; value = w }

-- "new accumulator for CALC and CALCX, else the value sent"
abbrev pub answer : Command → Core → Word
answer c core = pick (eqb c.number 19) core.accumulator (pick (eqb c.number 33) core.accumulator c.value)

abbrev pub after_work : Command → Work → Direct
after_work c w =
    pick (is_done w.status) (direct (answered w.status (answer c w.core) w.core) w.values w.outputs w.store)
    (direct (refused w.status w.core) w.values w.outputs w.store)

unfoldable pub changed : Command → Core → List ℤ → List ℕ → List ℕ → Direct
changed c core values outputs store = after_work c (worked c core values outputs store)

-- 6 for "21 JC, 22 JA, 23 CSUB, 24 RSUB, 27 WAIT, 28 STOP"; then what the seven bytes decide; then "value read" by GAP, GGP and GIO,
-- or the command's work
unfoldable pub directed : Command → Core → List ℤ → List ℕ → List ℕ → List ℤ → List ℕ → Direct
directed c core values outputs digital analog store =
    pick (is_flow c.number) (direct (refused Unavailable core) values outputs store)
    (pick (is_done (judged c))
    (pick (is_reading c.number) (direct (answered Done (read c core values outputs digital analog) core) values outputs store)
    (changed c core values outputs store))
    (direct (refused (judged c) core) values outputs store))
