-- The machine serves from the script's start, and the ledgers are those of that start.
use Rattle.trials_kernel.proofs.replaced_workers.replaced.Goals as goal

pub step_task-requires-clause-served : goal.step_task-requires-clause-served
step_task-requires-clause-served c = (c.in_ok-machine.ensures c.in_ok-policy.policy).served

pub step_task-requires-clause-ledgers : goal.step_task-requires-clause-ledgers
step_task-requires-clause-ledgers c = rw (c.in_ok-machine.ensures c.in_ok-policy.policy).events (c.in_ok-ledgers.ensures.ledgers c.in_ok-script.script)
