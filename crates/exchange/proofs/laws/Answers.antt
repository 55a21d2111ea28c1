-- `exchange::laws`.
use Rattle.exchange.proofs.Exchange as Exchange
use Rattle.exchange.proofs.laws.Goals as goal

pub returns : goal.returns
returns c = Exchange.laws
