use Rattle.delay_bounded.proofs.Walks.{one_history}
use Rattle.delay_bounded.proofs.laws.without_delays_one.Goals as goal

pub returns : goal.returns
returns c = one_history
