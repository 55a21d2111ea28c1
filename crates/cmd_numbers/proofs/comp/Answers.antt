-- `cmd_numbers::comp`.
use Rattle.judge.specs.Judge.{judged, is_flow, is_reading}
use Rattle.rules.specs.Deciding.{worked, decided_by}
use Rattle.cmd_turns.specs.Turn.{turned, through}
use Rattle.cmd_turns.specs.Deed.{doing}
use Rattle.cmd_numbers.proofs.comp.Goals as goal

pub returns : goal.returns
unfolding judged turned through doing is_flow is_reading worked decided_by
returns c r n m = simp c.compare.ensures
