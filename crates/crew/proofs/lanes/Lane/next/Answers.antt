use Rattle.crew.proofs.Newest.{newest-taken}
use Rattle.crew.proofs.lanes.Lane.next.Goals as goal

pub invariant_of-self-clause-newest : goal.invariant_of-self-clause-newest
invariant_of-self-clause-newest g c = newest-taken c.args.self.now.take c.take-self.new.pass c.take-self.result c.take-self.ensures
