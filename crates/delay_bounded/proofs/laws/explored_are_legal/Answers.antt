use Rattle.delay_bounded.proofs.LegalWalks.{all_explored}
use Rattle.delay_bounded.proofs.laws.explored_are_legal.Goals as goal

pub returns : goal.returns
returns c = λ P S W d few. all_explored P S W few d
