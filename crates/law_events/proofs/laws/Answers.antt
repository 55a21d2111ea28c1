-- `law_events::laws`.
use Rattle.law_events.proofs.Steps as Steps
use Rattle.law_events.proofs.Replies as Replies
use Rattle.law_events.proofs.Answers as Answers
use Rattle.law_events.proofs.Known as Known
use Rattle.law_events.proofs.laws.Goals as goal

pub returns : goal.returns
returns c = (Steps.steps-laws, Replies.replies, Answers.one_answer, Known.laws)
