use Rattle.same_futures.proofs.Joined.{same-back, same-joined}
use Rattle.same_futures.proofs.laws.the_same_are_joined.Goals as goal

pub returns-clause-back : goal.returns-clause-back
returns-clause-back c = same-back

pub returns-clause-joined : goal.returns-clause-joined
returns-clause-joined c = same-joined
