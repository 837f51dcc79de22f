use Rattle.std.proofs.Common.{◌+◌, arith}
use Rattle.task_groups.proofs.Ranges.{unmapped-high}
use Rattle.task_groups.proofs.map.mapped_behind.Goals as goal

pub returns-in-None-clause-outside : goal.returns-in-None-clause-outside
returns-in-None-clause-outside c low q = unmapped-high c.args.map.now (c.args.addr + c.args.count) low (omega (arith, c.in-None.ensures))
