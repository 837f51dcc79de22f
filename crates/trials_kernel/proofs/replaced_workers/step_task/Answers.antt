use Rattle.trials_kernel.proofs.Kept.{task_kept}
use Rattle.trials_kernel.proofs.replaced_workers.step_task.Goals as goal

pub returns-in_ok-_stepped-clause-ledgers : goal.returns-in_ok-_stepped-clause-ledgers
returns-in_ok-_stepped-clause-ledgers c =
    task_kept c.args.policy.now c.args.machine.now c.try_task.new.self c.args.ledgers.now _ c.in_ok-_stepped._stepped c.in_ok-_stepped.ensures.done c.requires.ledgers
