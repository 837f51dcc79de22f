use Rattle.same_futures.proofs.Outcomes.{lines-back, lines-joined}
use Rattle.same_futures.proofs.laws.the_same_lines_are_joined.Goals as goal

pub returns-clause-back : goal.returns-clause-back
returns-clause-back c = lines-back

pub returns-clause-joined : goal.returns-clause-joined
returns-clause-joined c = lines-joined
