use Rattle.step_session.proofs.Told.{on_ok, scripted}
use Rattle.step_session.proofs.container.Container.script.Goals as goal

pub returns : goal.returns
returns c = on_ok c.push_script.result (λ added. scripted c.args.origin.now c.args.self.now c.args.line.now c.push_script.new.line _ c.history.ensures added) c.push_script.ensures
