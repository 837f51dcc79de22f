use Rattle.worker_gate.proofs.Continuing.{lacked, tried, went_on, worker_may}
use Rattle.worker_gate.proofs.served.Serving.step_worker.Goals as goal

pub returns-clause-goes_on : goal.returns-clause-goes_on
returns-clause-goes_on c =
    let old = c.args.self.now in
    went_on old.policy old.limit old.machine _ c.requires.kept _ (worker_may old.limit c.args.number c.requires.may) c.try_worker.result c.try_worker.ensures.done c.try_worker.ensures.same

pub returns-clause-step : goal.returns-clause-step
returns-clause-step c = tried c.args.self.now.policy c.args.self.now.machine _ _ c.try_worker.result c.try_worker.ensures.done

pub returns-clause-none : goal.returns-clause-none
returns-clause-none c = lacked c.args.self.now.policy c.args.self.now.machine _ c.try_worker.result c.try_worker.ensures.same
