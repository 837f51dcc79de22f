use Rattle.delay_bounded.proofs.LegalWalks.{all_finished}
use Rattle.delay_bounded.proofs.laws.explored_are_finished.Goals as goal

pub returns : goal.returns
returns c = λ P S W d rules few. all_finished P S W few rules d
