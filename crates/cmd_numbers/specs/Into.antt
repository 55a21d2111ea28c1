-- What a result does: into the accumulator, or refused for a zero divisor.
use Rattle.std.specs.Prelude.{◌≡◌, ℕ, List, Result}
use Rattle.words.specs.declared.Word.{Word}
use Rattle.dividing.specs.Divide.{answer_of}
use Rattle.dividing.specs.declared.ByZero.{ByZero}
use Rattle.status.specs.declared.Refusal.{Refusal}
use Rattle.rules.specs.Numbers.{into_accumulator}
use Rattle.rules.specs.Effects.{applied}
use Rattle.board.specs.declared.Registers.{Registers}
use Rattle.cmd_turns.specs.declared.Deed.{Deed}
use Rattle.cmd_turns.specs.Turn.{work}
use Rattle.cmd_turns.specs.Deed.{comes_to}

abbrev pub Into : Result Word ByZero → Result Deed Refusal → Type 0
Into d e =
    (r : Registers) (m : List ℕ)
    → comes_to e r m ≡ work (applied (into_accumulator (answer_of d) r.core.x) r.core r.values r.outputs m) r
