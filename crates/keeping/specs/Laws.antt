-- What a user of steps, runs and direct commands relies on.
use Rattle.std.specs.Prelude.{ℕ, ◌≡◌, Bool, true, false, not, ◌&&◌, List, eqb, leb, ℤ, length}
use Rattle.std.specs.Int.{w32}
use Rattle.std.proofs.Common.{SFits}
use Rattle.words.specs.Laws.{AllBytes}
use Rattle.wire.specs.declared.Command.{Command}
use Rattle.store.specs.Store.{record_at}
use Rattle.status.specs.Status.{is_done}
use Rattle.waiting.specs.Waiting.{waited, Waited, Refused, Passed, TimedOut, Holding}
use Rattle.judge.specs.Judge.{judged}
use Rattle.rules.specs.Step.{State, Pins, state, step}
use Rattle.rules.specs.Run.{Progress, run}
use Rattle.rules.specs.Direct.{Direct, directed}
use Rattle.keeping.specs.Sound.{Sound}

-- the registers and the store that a direct command leaves, with the call stack, which it does not touch
abbrev pub left : Direct → List ℕ → State
left d e = state d.core e d.values d.outputs d.store

-- a record is a WAIT that the judge lets through, and it holds
abbrev pub is_holding : Waited → Bool
is_holding Refused = false
is_holding Passed = false
is_holding TimedOut = false
is_holding (Holding w) = true

abbrev pub holds : Command → State → Bool
holds r x =
    is_done (judged r)
    && (eqb r.number 27 && is_holding (waited r.kind r.value x.core.accumulator x.values x.core.wait))

pub record Laws : Type 0 where
  -- "a WAIT holds": a step leaves a wait armed exactly if it is a WAIT that holds
  pub step_held : (program : List ℕ) (p : Pins) (x : State)
      → (step program p x).state.core.wait.armed
      ≡ not (leb 1024 x.core.address) && holds (record_at program x.core.address) x
  -- registers in range stay so: under a step and a run of a program of bytes, whatever they are, and under every direct command
  pub step_sound : (program : List ℕ) (p : Pins) (x : State) → AllBytes program → Sound x → Sound (step program p x).state
  pub run_sound : (alone : Bool) (program : List ℕ) (p : Pins) (n : ℕ) (x : Progress) → AllBytes program → Sound x.state
      → Sound (run alone program p n x).state
  pub direct_sound : (c : Command) (digital : List ℕ) (analog : List ℤ) (x : State) → SFits w32 c.value.v → Sound x
      → Sound (left (directed c x.core x.values x.outputs digital analog x.store) x.entries)
  -- no length of the parameter store changes
  pub step_store : (program : List ℕ) (p : Pins) (x : State) → length (step program p x).state.store ≡ length x.store
  pub direct_store : (c : Command) (digital : List ℕ) (analog : List ℤ) (x : State)
      → length (directed c x.core x.values x.outputs digital analog x.store).store ≡ length x.store
  -- a refused direct command changes no register and no byte of the store
  pub direct_refused : (c : Command) (digital : List ℕ) (analog : List ℤ) (x : State)
      → is_done (directed c x.core x.values x.outputs digital analog x.store).status ≡ false
      → left (directed c x.core x.values x.outputs digital analog x.store) x.entries ≡ x
