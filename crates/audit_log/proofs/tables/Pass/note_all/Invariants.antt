use Rattle.std.proofs.Common.{[], reverse, take}
use Rattle.audit_log.specs.Pass.{HasPast}
use Rattle.audit_log.proofs.tables.Pass.note_all.Given as goal

abbrev pub invariant-loop-place : goal.invariant-loop-place
invariant-loop-place l = HasPast l.policy.rules [] l.fn.self → HasPast l.policy.rules (reverse (take l.place l.events)) l.self
