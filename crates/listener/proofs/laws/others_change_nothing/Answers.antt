use Rattle.listener.proofs.Stand.{stands-other}
use Rattle.listener.proofs.laws.others_change_nothing.Goals as goal

pub returns : goal.returns
returns c first K e L S o = stands-other first K L S e o
