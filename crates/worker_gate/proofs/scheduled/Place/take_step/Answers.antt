-- The step is the next one of the line in hand.
use Rattle.worker_gate.proofs.Schedules.{step_moves}
use Rattle.worker_gate.proofs.scheduled.Place.take_step.Goals as goal

pub returns-clause-moves : goal.returns-clause-moves
returns-clause-moves c =
    step_moves c.args.state.now.setup c.args.self.now c.args.state.now.history.events c.requires.place _ c.requires.left c.in_ok-step.ensures.done
