use Rattle.std.proofs.Common.{take}
use Rattle.std.specs.List.{flat_map}
use Rattle.hist_model.specs.ReportAudit.{judging_by}
use Rattle.audit_log.specs.Audited.{session_line}
use Rattle.audit_log.specs.Written.{Gathered}
use Rattle.audit_log.proofs.audit.write_sessions.Given as goal

abbrev pub invariant-loop-row : goal.invariant-loop-row
invariant-loop-row g l =
    Gathered (g.O.Sink.state l.fn.out) (flat_map (session_line (judging_by l.policy.rules) l.calls) (take l.row l.sessions)) l.line (g.O.Sink.state l.out)
