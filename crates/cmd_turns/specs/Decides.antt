-- What is rightly decided for a command.
use Rattle.std.specs.Prelude.{ℕ, ◌≡◌, List, Result}
use Rattle.words.specs.declared.Word.{Word}
use Rattle.wire.specs.declared.Command.{Command}
use Rattle.status.specs.declared.Refusal.{Refusal}
use Rattle.judge.specs.Judge.{numbered}
use Rattle.board.specs.declared.Registers.{Registers}
use Rattle.cmd_turns.specs.declared.Deed.{Deed}
use Rattle.cmd_turns.specs.Turn.{turned}
use Rattle.cmd_turns.specs.Deed.{comes_to, seen}

-- what is decided comes to what the command comes to: with this accumulator and this address beside the registers, and this parameter store
abbrev pub Decides : ℕ → Command → Word → ℕ → Registers → List ℕ → Result Deed Refusal → Type 0
Decides k c a n r m d = comes_to d (seen a n r) m ≡ turned (numbered k c) (seen a n r) m

-- .. whatever the accumulator, the address and the store are; whatever the address and the store are; whatever is stored
abbrev pub Always : ℕ → Command → Registers → Result Deed Refusal → Type 0
Always k c r d = (a : Word) (n : ℕ) (m : List ℕ) → Decides k c a n r m d

abbrev pub From : ℕ → Command → Word → Registers → Result Deed Refusal → Type 0
From k c a r d = (n : ℕ) (m : List ℕ) → Decides k c a n r m d

abbrev pub At : ℕ → Command → ℕ → Registers → Result Deed Refusal → Type 0
At k c n r d = (a : Word) (m : List ℕ) → Decides k c a n r m d

abbrev pub Stored : ℕ → Command → Registers → List ℕ → Result Deed Refusal → Type 0
Stored k c r m d = (a : Word) (n : ℕ) → Decides k c a n r m d
