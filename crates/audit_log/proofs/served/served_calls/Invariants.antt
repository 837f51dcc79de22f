use Rattle.audit_log.specs.Places.{call_in}
use Rattle.audit_log.proofs.ServedCalls.{Served}
use Rattle.audit_log.proofs.served.served_calls.Given as goal

abbrev pub invariant-loop-row : goal.invariant-loop-row
invariant-loop-row l = Served (call_in l.calls.received) l.sessions l.room l.row l.found.items
