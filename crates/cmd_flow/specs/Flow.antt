-- What JC and WAIT find.
use Rattle.std.specs.Prelude.{ℕ, ◌≡◌, Bool, List, Result, Ok, Err}
use Rattle.words.specs.declared.Word.{Word}
use Rattle.wire.specs.declared.Command.{Command}
use Rattle.waits.specs.declared.Wait.{Wait}
use Rattle.waiting.specs.Waiting.{tested, Holding}
use Rattle.registers.specs.Registers.{next_address}
use Rattle.board.specs.declared.Registers.{Registers}
use Rattle.status.specs.declared.Refusal.{Refusal}
use Rattle.cmd_turns.specs.declared.Deed.{Deed}
use Rattle.cmd_turns.specs.declared.Deed.TheVariants.{Dropped}
use Rattle.cmd_turns.specs.Turn.{after_wait}
use Rattle.cmd_turns.specs.Deed.{doing}
use Rattle.cmd_turns.specs.Decides.{Decides}

-- whatever address has this next one
abbrev pub Before : ℕ → Command → Word → ℕ → Registers → Result Deed Refusal → Type 0
Before k c a next r d = (n : ℕ) → next_address n ≡ next → (m : List ℕ) → Decides k c a n r m d

-- a wait with this count tested, where the deed to hold on is right
abbrev pub Tests : ℕ → Registers → ℕ → Bool → Deed → Deed → Type 0
Tests kind of count timed holding d =
    (w : Wait) → count ≡ w.count → timed ≡ w.timed → (r : Registers) (m : List ℕ) → doing holding r m ≡ after_wait (Holding w) r m
    → doing d r m ≡ after_wait (tested kind of.values w) r m

-- a WAIT that is refused drops the wait
abbrev pub dropping : Result Deed Refusal → Deed
dropping (Ok deed) = deed
dropping (Err refusal) = Dropped refusal
