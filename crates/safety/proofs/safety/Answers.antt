-- `safety::safety`.
use Rattle.safety.proofs.Safe as Safe
use Rattle.safety.proofs.safety.Goals as goal

pub returns : goal.returns
returns c = Safe.safety
