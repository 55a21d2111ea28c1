-- `board_events::power::clear`.
use mathlib.Core.Path.{refl}
use Rattle.board.specs.Registers.{unpowered}
use Rattle.reg_image.specs.Image.{part, words, registers_of, shaped}
use Rattle.board_events.proofs.power.clear.Goals as goal

pub returns : goal.returns
unfolding part words registers_of shaped unpowered
returns c = record { of = refl; shape = refl }
