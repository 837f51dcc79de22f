use Rattle.model_kernel.specs.Kernels.{past, system}
use Rattle.broker_machine.proofs.Tasks.{unmade_skips}
use Rattle.broker_machine.proofs.machine.Machine.named_turn.Goals as goal

pub task_turn-requires-clause-made : goal.task_turn-requires-clause-made
task_turn-requires-clause-made c = (rw c.in-Some.is at c.requires.found).0

pub task_turn-requires-clause-named : goal.task_turn-requires-clause-named
task_turn-requires-clause-named c = rw (rw c.in-Some.is at c.requires.found).1 c.requires.named

pub skip_turn-requires-clause-due : goal.skip_turn-requires-clause-due
skip_turn-requires-clause-due c =
    let k = c.args.self.now.kernel in
    let unmade = rw c.in-None.is at c.requires.found in
    unmade_skips (system k) (past k) c.args.name.now unmade

pub returns-in-Some-clause-done : goal.returns-in-Some-clause-done
returns-in-Some-clause-done c = rw (rw c.in-Some.is at c.requires.found).1 at c.task_turn.ensures.done
