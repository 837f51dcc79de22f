use Rattle.std.proofs.Common.{ap}
use Rattle.worker_gate.proofs.Turns.{same_for}
use Rattle.worker_gate.specs.Keeping.{ServedFacts}
use Rattle.worker_gate.proofs.served.Served.try_serve.Goals as goal

pub returns-in_err-catch_up-clause-errand : goal.returns-in_err-catch_up-clause-errand
returns-in_err-catch_up-clause-errand c =
    same_for c.args.errand c.args.self.now.history.events c.catch_up.new.self.history.events (ap (λ (s : ServedFacts). s.history.events) c.catch_up.ensures)
