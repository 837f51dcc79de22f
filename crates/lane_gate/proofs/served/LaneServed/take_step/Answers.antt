use Rattle.std.proofs.Common.{◌≡◌, None, refl, rules, tests}
use Rattle.worker_gate.proofs.Turns.{same_for}
use Rattle.lane_gate.proofs.served.LaneServed.take_step.Goals as goal
use Rattle.lane_gate.proofs.served.LaneServed.take_step.Goals.{else-has, then-has}

pub returns-in-Some-clause-errand : goal.returns-in-Some-clause-errand
returns-in-Some-clause-errand c = c.serve_handed.ensures.errand c.args.errand c.in-Some.is

pub returns-then-has-2-clause-errand : goal.returns-then-has-2-clause-errand
returns-then-has-2-clause-errand c =
    let none : c.args.errand.worker ≡ None = elim c.if-has.branch [ then-has w ↦ search (rules, tests) | else-has w ↦ absurd (cc (w.may_receive-is, c.if-may_receive.true)) ] in
    c.receive.ensures.errand c.args.errand none

pub returns-then-has-3-clause-errand : goal.returns-then-has-3-clause-errand
returns-then-has-3-clause-errand c = c.step_task.ensures.errand c.args.errand

pub returns-else-has-3-clause-errand : goal.returns-else-has-3-clause-errand
returns-else-has-3-clause-errand c = same_for c.args.errand c.args.self.now.history.events c.args.self.now.history.events refl
