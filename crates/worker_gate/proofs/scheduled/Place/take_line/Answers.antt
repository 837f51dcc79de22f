-- The line that was found is the one behind the place, or there is none.
use Rattle.std.proofs.Common.{arith}
use Rattle.worker_gate.proofs.Schedules.{end_moves, line_moves}
use Rattle.worker_gate.specs.Scheduling.{IsLine}
use Rattle.worker_gate.proofs.scheduled.Place.take_line.Goals as goal

pub overflow_add-self : goal.overflow_add-self
overflow_add-self c =
    let is : IsLine c.args.state.now.setup.script c.args.state.now.history.events c.args.self.now.next c.in-Some.line = rw c.in-Some.is at c.in_ok-line.ensures in
    omega (arith, is.few.1)

pub returns-in-Some : goal.returns-in-Some
returns-in-Some c = record {
  moves = line_moves c.args.state.now.setup c.args.self.now c.args.state.now.history.events c.requires.place c.requires.done c.requires.goes_on c.in-Some.line (rw c.in-Some.is at c.in_ok-line.ensures);
}

pub returns-in-None : goal.returns-in-None
returns-in-None c = record {
  moves = end_moves c.args.state.now.setup c.args.self.now c.args.state.now.history.events c.requires.place c.requires.done c.requires.goes_on (rw c.in-None.is at c.in_ok-line.ensures);
}
