use Rattle.step_session.proofs.Told.{on_ok, reported}
use Rattle.step_session.proofs.container.Container.report.Goals as goal

pub returns : goal.returns
returns c = on_ok c.push_report.result (λ added. reported c.args.origin.now c.args.self.now c.args.line.now c.push_report.new.line _ c.history.ensures added) c.push_report.ensures
