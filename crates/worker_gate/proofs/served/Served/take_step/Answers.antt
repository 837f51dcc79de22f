use Rattle.std.proofs.Common.{subst, sym}
use Rattle.crew.specs.Errands.{StepsFor}
use Rattle.hist_model.specs.declared.event.Actor.TheVariants.{Worker}
use Rattle.worker_gate.proofs.Turns.{same_for, step_turn, worker_for}
use Rattle.worker_gate.specs.Keeping.{ServedFacts, TakesTurn}
use Rattle.worker_gate.proofs.served.Served.take_step.Goals as goal

pub returns-then-branch-clause-turn : goal.returns-then-branch-clause-turn
returns-then-branch-clause-turn c =
    subst (TakesTurn c.args.self.now) (sym c.came.ensures.same)
    (step_turn c.args.self.now c.step_worker.new.self c.step_worker.ensures.setup (Worker c.in-Some.number) c.in_ok-step_worker.field-0 c.in_ok-step_worker.ensures.step)

pub returns-then-branch-clause-errand : goal.returns-then-branch-clause-errand
returns-then-branch-clause-errand c =
    let before = c.args.self.now.history.events in
    subst (λ (s : ServedFacts). StepsFor c.args.errand before s.history.events) (sym c.came.ensures.same)
    (worker_for c.args.errand before c.step_worker.new.self.history.events c.in-Some.number c.in_ok-step_worker.field-0 c.in-Some.is c.in_ok-step_worker.ensures.step)

pub returns-in_default-clause-errand : goal.returns-in_default-clause-errand
returns-in_default-clause-errand c = c.step_some_task.ensures.errand c.args.errand

pub returns-in_err-step_worker-clause-errand : goal.returns-in_err-step_worker-clause-errand
returns-in_err-step_worker-clause-errand c = same_for c.args.errand c.args.self.now.history.events c.step_worker.new.self.history.events c.in_err-step_worker.ensures.none

pub returns-clause-errand : goal.returns-clause-errand
returns-clause-errand c =
    subst (λ K. StepsFor c.args.errand K c.step_some_task-2.new.self.history.events) (rw c.if-branch.false at c.in_ok-step_worker.ensures.step)
    (c.step_some_task-2.ensures.errand c.args.errand)
