use Rattle.broker_app.proofs.Saying.{writes_more}
use Rattle.broker_app.specs.Lines.{rules_line}
use Rattle.broker_app.proofs.lines.write_rules_of.Goals as goal

pub returns : goal.returns
returns g c = writes_more _ _ _ c.args.front.now (rules_line c.args.error.now) _ _ c.in_ok-write.ensures c.write_rules_line.ensures
