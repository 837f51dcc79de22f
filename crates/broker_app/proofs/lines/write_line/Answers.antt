use Rattle.broker_app.proofs.Saying.{said_flushed}
use Rattle.broker_app.specs.Lines.{line_of}
use Rattle.broker_app.proofs.lines.write_line.Goals as goal

pub returns : goal.returns
returns g c = said_flushed _ _ _ (line_of c.args.status.now) _ _ c.in_ok-write_status.ensures c.flush.ensures
