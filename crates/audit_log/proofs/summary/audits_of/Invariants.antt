use Rattle.std.proofs.Common.{◌≡◌, take, map}
use Rattle.audit_log.specs.declared.session.SessionRecord.{SessionRecord}
use Rattle.audit_log.specs.Audited.{audited}
use Rattle.audit_log.specs.CallTable.{number_in}
use Rattle.audit_log.proofs.summary.audits_of.Given as goal

abbrev pub invariant-loop-row : goal.invariant-loop-row
invariant-loop-row l = l.found.items ≡ map (λ (s : SessionRecord). audited (number_in l.calls s.place) s) (take l.row l.sessions)
