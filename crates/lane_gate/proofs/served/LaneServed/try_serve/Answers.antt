use Rattle.std.proofs.Common.{refl}
use Rattle.worker_gate.proofs.Turns.{same_for}
use Rattle.lane_gate.proofs.served.LaneServed.try_serve.Goals as goal

pub returns-in_err-catch_up-clause-errand : goal.returns-in_err-catch_up-clause-errand
returns-in_err-catch_up-clause-errand c =
    rw (← c.self.view_is) (rw (← c.catch_up.ensures) (same_for c.args.errand c.catch_up.new.self.history.events c.catch_up.new.self.history.events refl))
