-- What the last step leaves, by whether it stops the program. Assumes nothing.
use mathlib.Core.Path.{◌≡◌, refl, sym}
use mathlib.Core.Bool.{true, false}
use Rattle.words.proofs.Bools.{is_T}
use Rattle.registers.specs.Registers.{with_running}
use Rattle.board.specs.declared.Registers.{Registers}
use Rattle.reg_image.specs.With.{in_core}
use Rattle.cmd_turns.specs.declared.Left.{Left}
use Rattle.cmd_turns.specs.declared.Left.TheVariants.{Goes, Holds, Stops}
use Rattle.machine.specs.Alone.{is_stop, ended}

pub stops-there : (l : Left) (r : Registers) → is_stop l ≡ true → in_core (with_running false) r ≡ ended l r
stops-there Goes r e = absurd (is_T false e)
stops-there Holds r e = absurd (is_T false e)
stops-there Stops r e = refl

pub stays-so : (l : Left) (r : Registers) → is_stop l ≡ false → r ≡ ended l r
stays-so Goes r e = refl
stays-so Holds r e = refl
stays-so Stops r e = absurd (is_T false (sym e))
