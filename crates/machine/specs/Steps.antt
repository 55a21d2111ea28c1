-- Steps of records, so many of them from a place of lent bytes on: a program's 1,024, or the one of a frame.
use Rattle.std.specs.Prelude.{ℕ, zero, suc, ◌+◌, ◌*◌, Bool, true, false, ◌≡◌, List, leb, Result}
use Rattle.words.specs.Word.{pick}
use Rattle.words.specs.declared.Word.{Word}
use Rattle.wire.specs.Frame.{command_at}
use Rattle.wire.specs.declared.Command.{Command}
use Rattle.status.specs.declared.Status.TheVariants.{Value}
use Rattle.status.specs.declared.Refusal.{Refusal}
use Rattle.board.specs.declared.Registers.{Registers}
use Rattle.reg_image.specs.Image.{registers_of, shaped}
use Rattle.cmd_turns.specs.declared.Deed.{Deed}
use Rattle.cmd_turns.specs.declared.Left.{Left}
use Rattle.cmd_turns.specs.declared.Left.TheVariants.{Goes, Holds, Stops}
use Rattle.cmd_turns.specs.Turn.{Turn, turn, turned}
use Rattle.cmd_turns.specs.Deed.{comes_to, seen}
use Rattle.machine.specs.declared.Gone.{Gone}
use Rattle.machine.specs.Applied.{Kept}

-- what is decided is right for a record
abbrev pub Right : Command → Word → ℕ → Registers → List ℕ → Result Deed Refusal → Type 0
Right c a n r m d = comes_to d (seen a n r) m ≡ turned c (seen a n r) m

abbrev pub is_going : Left → Bool
is_going Goes = true
is_going Holds = false
is_going Stops = false

-- what the last step left, and how many of the budget are not used
pub record Walk : Type 0 where
  pub turn : Turn
  pub unused : ℕ

module _ (program : List ℕ) (first records : ℕ) where
  -- "Address 1,024: status 4, stops": past the last record
  unfoldable pub step_turn : Registers → List ℕ → Turn
  step_turn r m =
      pick (leb records r.core.address) (turn r m Value Stops) (turned (command_at program (first + r.core.address * 7)) r m)

  -- steps until the budget is used or one does not go on
  unfoldable pub going : ℕ → Turn → Walk
  going zero t = record { turn = t; unused = 0 }
  going (suc n) t =
      pick (is_going (step_turn t.registers t.store).left) (going n (step_turn t.registers t.store))
      (record { turn = step_turn t.registers t.store; unused = n })

abbrev pub walk_of : Gone → List ℕ → List ℕ → Walk
walk_of g l m =
    record { turn = turn (seen g.accumulator g.address (registers_of l)) m g.status g.left; unused = g.unused }

pub record Goings (w : Walk) (l : List ℕ) (g : Gone) (k m : List ℕ) : Type 0 where
  pub makes : walk_of g k m ≡ w
  pub kept : Kept l k
  pub stays : shaped l ≡ true → shaped k ≡ true
