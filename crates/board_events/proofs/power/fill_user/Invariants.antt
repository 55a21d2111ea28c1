-- `board_events::power::fill_user`: all from 48 up to the place are filled.
use Rattle.board_events.specs.Filling.{Fills}
use Rattle.board_events.proofs.power.fill_user.Given as goal

abbrev pub invariant-loop-place : goal.invariant-loop-place
invariant-loop-place l = Fills l.cells 48 l.place l.initial.image l.image
