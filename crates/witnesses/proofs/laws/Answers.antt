-- `witnesses::laws`.
use Rattle.witnesses.proofs.Checks as Checks
use Rattle.witnesses.proofs.Runs as Runs
use Rattle.witnesses.proofs.Replies as Replies
use Rattle.witnesses.proofs.Rows as Rows
use Rattle.witnesses.proofs.laws.Goals as goal

pub returns : goal.returns
returns c = (Checks.checks, Runs.runs, Replies.replies, Rows.rows)
