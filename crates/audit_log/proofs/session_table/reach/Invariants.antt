use Rattle.std.proofs.Common.{◌+◌, ◌-◌, length}
use Rattle.audit_log.specs.SessionTable.{IsGrown}
use Rattle.audit_log.proofs.session_table.reach.Given as goal

abbrev pub invariant-loop-alloc : goal.invariant-loop-alloc
invariant-loop-alloc l = IsGrown l.fn.workers.items l.workers.items

abbrev pub decreases-loop-alloc : goal.decreases-loop-alloc
decreases-loop-alloc l = l.number + 1 - length l.workers.items
