use Rattle.delay_bounded.proofs.Walks.{none_with_more}
use Rattle.delay_bounded.proofs.laws.no_gap.Goals as goal

pub returns : goal.returns
returns c = none_with_more
