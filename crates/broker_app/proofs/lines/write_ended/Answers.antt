use Rattle.std.proofs.Common.{◌++◌, ◌∷◌, []}
use Rattle.broker_app.proofs.Saying.{writes_more}
use Rattle.broker_app.proofs.lines.write_ended.Goals as goal

pub returns : goal.returns
returns g c = writes_more _ _ _ c.args.beginning.now (c.args.text.now ++ 10 ∷ []) _ _ c.in_ok-write.ensures c.write_two.ensures
