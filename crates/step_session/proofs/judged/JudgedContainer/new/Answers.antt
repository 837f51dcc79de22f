use Rattle.step_session.proofs.Hearing.{begins}
use Rattle.step_session.proofs.judged.JudgedContainer.new.Goals as goal

pub returns : goal.returns
returns c = begins c.args.origin.now c.args.script c.of.result c.in_ok-kernel.kernel c.in_ok-watch.watch c.in_ok-kernel.ensures c.of.ensures c.in_ok-watch.ensures
