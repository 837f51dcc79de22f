use Rattle.delay_bounded.proofs.Left.{within_more}
use Rattle.delay_bounded.proofs.laws.within_more.Goals as goal

pub returns : goal.returns
returns c = within_more
