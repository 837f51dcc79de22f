use Rattle.tasks.proofs.Told.{stands-other}
use Rattle.tasks.proofs.laws.others_change_nothing.Goals as goal

pub returns : goal.returns
returns c S K e T s h = stands-other S K e T s h
