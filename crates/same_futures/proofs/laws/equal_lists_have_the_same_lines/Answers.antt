use Rattle.same_futures.proofs.FlatLines.{same-by-all}
use Rattle.same_futures.proofs.laws.equal_lists_have_the_same_lines.Goals as goal

pub returns : goal.returns
returns c = λ S J ts cs K L same q. same-by-all S ts cs K L same J q
