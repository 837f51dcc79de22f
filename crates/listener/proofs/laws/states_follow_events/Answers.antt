use Rattle.listener.proofs.Folds.{follows}
use Rattle.listener.proofs.laws.states_follow_events.Goals as goal

pub returns : goal.returns
returns c first K e s L S A p = (follows first K e s L S A p).0
