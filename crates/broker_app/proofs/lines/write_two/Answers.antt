use Rattle.broker_app.proofs.Saying.{writes_more}
use Rattle.broker_app.proofs.lines.write_two.Goals as goal

pub returns : goal.returns
returns g c = writes_more _ _ _ c.args.beginning.now c.args.«end».now _ _ c.in_ok-write.ensures c.write-2.ensures
