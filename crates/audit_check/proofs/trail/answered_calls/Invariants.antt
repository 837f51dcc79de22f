use Rattle.audit_log.specs.Places.{call_in}
use Rattle.audit_check.proofs.Traced.{Answered}
use Rattle.audit_check.proofs.trail.answered_calls.Given as goal

abbrev pub invariant-loop-place : goal.invariant-loop-place
invariant-loop-place l = Answered (call_in l.calls.answered) l.room l.place l.found.items
