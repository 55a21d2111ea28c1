-- "Fields a command does not use are ignored": with 0 there a command does the same, with the same status. The value answered is the
-- same too, unless it is the value sent.
use Rattle.std.specs.Prelude.{ℕ, ◌≡◌, true, List, ℤ, pos}
use Rattle.words.specs.Word.{word}
use Rattle.wire.specs.declared.Command.{Command}
use Rattle.registers.specs.declared.Core.{Core}
use Rattle.judge.specs.Judge.{judged}
use Rattle.rules.specs.Step.{State, Pins, obeyed}
use Rattle.rules.specs.Direct.{Direct, direct, answered, directed}
use Rattle.board.specs.declared.Registers.{Registers}
use Rattle.rules.specs.Outcome.{Changed, changed, done}
use Rattle.rules.specs.Controlling.{obeyed_control}
use Rattle.ignoring.specs.Unused.{plain, plain_control, answers, control_answers}

-- what a direct command leaves and its status, with value 0
abbrev pub unanswered : Direct → Direct
unanswered d = direct (answered d.status (word (pos 0)) d.core) d.values d.outputs d.store

-- what a control command leaves and its status, with value 0
abbrev pub silent : Changed → Changed
silent c = changed (done c.obeyed.status (word (pos 0)) c.obeyed.registers) c.store

pub record Laws : Type 0 where
  -- what the bytes decide, in the check of a program too
  pub judged_same : (c : Command) → judged (plain c) ≡ judged c
  pub step_same : (c : Command) (p : Pins) (x : State) → obeyed (plain c) p x ≡ obeyed c p x
  pub direct_same : (c : Command) (core : Core) (values : List ℤ) (outputs digital : List ℕ) (analog : List ℤ) (store : List ℕ)
      → unanswered (directed (plain c) core values outputs digital analog store)
      ≡ unanswered (directed c core values outputs digital analog store)
  pub answer_same : (c : Command) (core : Core) (values : List ℤ) (outputs digital : List ℕ) (analog : List ℤ) (store : List ℕ)
      → answers c.number ≡ true
      → directed (plain c) core values outputs digital analog store ≡ directed c core values outputs digital analog store
  pub control_same : (c : Command) (program : List ℕ) (r : Registers) (m : List ℕ)
      → silent (obeyed_control (plain_control c) program r m) ≡ silent (obeyed_control c program r m)
  pub control_answer_same : (c : Command) (program : List ℕ) (r : Registers) (m : List ℕ) → control_answers c.number ≡ true
      → obeyed_control (plain_control c) program r m ≡ obeyed_control c program r m
