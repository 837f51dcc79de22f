use Rattle.task_groups.specs.State.{free_of}
use Rattle.native_calls.proofs.Runs.{opened, not-opened, unchanged}
use Rattle.native_calls.proofs.files.open.Goals as goal

pub returns-in-Ok-clause-run : goal.returns-in-Ok-clause-run
returns-in-Ok-clause-run c s T = opened s c.args.group c.args.node.ordinal c.in-Ok.number (free_of s c.args.group) c.open.new.self (c.in-Ok.ensures.number s T) (c.in-Ok.ensures.step s T)

pub returns-in-Err-clause-run : goal.returns-in-Err-clause-run
returns-in-Err-clause-run c s T =
    not-opened s c.args.group c.args.node.ordinal (free_of s c.args.group) c.open.new.self (c.in-Err.ensures.number s T) (unchanged s c.args.group c.args.groups.now c.open.new.self T c.in-Err.ensures.refused)
