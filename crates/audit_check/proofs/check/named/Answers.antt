-- A task or a worker that a line names may take its turn.
-- By the names that a line tells (`Steps`).
use Rattle.audit_check.proofs.Steps.{may_step}
use Rattle.audit_check.proofs.check.named.Goals as goal

pub turn-requires-clause-scheduled : goal.turn-requires-clause-scheduled
turn-requires-clause-scheduled c = may_step c.args.line.now c.args.who.now c.requires.named c.in-Task.is
