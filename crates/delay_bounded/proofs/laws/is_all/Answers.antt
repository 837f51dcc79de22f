use Rattle.delay_bounded.proofs.Walks.{nothing_added}
use Rattle.delay_bounded.proofs.laws.is_all.Goals as goal

pub returns : goal.returns
returns c = nothing_added
