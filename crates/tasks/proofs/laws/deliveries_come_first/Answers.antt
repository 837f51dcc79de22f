use Rattle.tasks.proofs.Told.{delivery-first}
use Rattle.tasks.proofs.laws.deliveries_come_first.Goals as goal

pub returns : goal.returns
returns c K n in_call due other = delivery-first K n in_call due other
