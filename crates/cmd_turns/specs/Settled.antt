-- What a turn makes of a program's registers, and what it answers in direct mode.
use Rattle.std.specs.Prelude.{ℕ, List}
use Rattle.words.specs.Word.{pick}
use Rattle.words.specs.declared.Word.{Word}
use Rattle.wire.specs.declared.Command.{Command}
use Rattle.status.specs.Status.{is_done}
use Rattle.registers.specs.Registers.{stopped}
use Rattle.judge.specs.Judge.{is_reading}
use Rattle.rules.specs.Direct.{answer}
use Rattle.board.specs.declared.Registers.{Registers}
use Rattle.rules.specs.Steps as steps
use Rattle.rules.specs.Outcome.{Changed, changed, done, refused}
use Rattle.reg_image.specs.With.{in_core, with_address}
use Rattle.cmd_turns.specs.declared.Left.{Left}
use Rattle.cmd_turns.specs.declared.Left.TheVariants.{Goes, Holds, Stops}
use Rattle.cmd_turns.specs.Turn.{Turn, dropped}

-- "any step that is not a WAIT" drops the wait; a holding WAIT keeps it; STOP, an unknown command and address 1,024 stop the program
abbrev pub settled : Left → Registers → Registers
settled Goes r = dropped r
settled Holds r = r
settled Stops r = in_core stopped r

abbrev pub stepped : Turn → steps.Turn
stepped t = record { registers = settled t.left t.registers; store = t.store; status = t.status }

-- ---- direct mode: what was read is answered and not loaded, and the address stays
abbrev pub back : Command → Registers → Turn → Registers
back c r t = pick (is_reading c.number) r (in_core (with_address r.core.address) t.registers)

abbrev pub told : Command → Turn → Word
told c t = pick (is_reading c.number) t.registers.core.accumulator (answer c t.registers.core)

abbrev pub directly : Command → Registers → List ℕ → Turn → Changed
directly c r m t =
    pick (is_done t.status) (changed (done t.status (told c t) (back c r t)) t.store) (changed (refused t.status r) m)
