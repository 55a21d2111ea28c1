-- `script_board::player::Player::lines`: each turn goes behind a line feed, so that less of the piece is left.
use Rattle.std.proofs.Common.{◌≤◌, length}
use Rattle.script_board.proofs.player.Player.lines.Given as goal

abbrev pub invariant-loop-end : goal.invariant-loop-end
invariant-loop-end l = length l.rest ≤ length l.piece

abbrev pub decreases-loop-end : goal.decreases-loop-end
decreases-loop-end l = length l.rest
