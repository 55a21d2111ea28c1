-- Parts of a command of direct mode.
use Rattle.std.specs.Prelude.{ℕ, ◌≡◌, List, eqb}
use Rattle.words.specs.Word.{pick}
use Rattle.words.specs.declared.Word.{Word}
use Rattle.wire.specs.declared.Command.{Command}
use Rattle.rules.specs.Obey as obeying
use Rattle.reg_image.specs.Image.{registers_of}
use Rattle.cmd_turns.specs.declared.Obeyed.{Obeyed}
use Rattle.cmd_turns.specs.Obeys.{Obeys}

-- "new accumulator for CALC and CALCX, else the value sent"
abbrev pub answer : Command → Word → Word
answer c a = pick (eqb c.number 19) a (pick (eqb c.number 33) a c.value)

-- GGP 130 answers the program address, and changes nothing
abbrev pub Shows : Command → List ℕ → Obeyed → Type 0
Shows c l o = c.number ≡ 10 → c.kind ≡ 130 → (m : List ℕ) → Obeys (obeying.direct c (registers_of l) m) l o l m
