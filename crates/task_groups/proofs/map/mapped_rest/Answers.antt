use Rattle.std.proofs.Common.{◌+◌, arith}
use Rattle.task_groups.proofs.Ranges.{mapped-in, mapped-none}
use Rattle.task_groups.proofs.map.mapped_rest.Goals as goal

pub returns-then-rest-gt0-clause-within : goal.returns-then-rest-gt0-clause-within
returns-then-rest-gt0-clause-within c i l = mapped-in c.args.map.now c.loop-range.range-index (c.args.addr + i) (record { start = 0; pages = 0 }) c.loop-range-test.true (c.rest_of-rest.ensures.within i l)

pub returns-clause-outside : goal.returns-clause-outside
returns-clause-outside c q = mapped-none c.args.map.now c.args.addr (λ k d l. c.loop-range.invariant k d (omega (arith, c.loop-range-test.false)))
