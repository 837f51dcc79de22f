use Rattle.std.proofs.Common.{reverse, take}
use Rattle.hist_model.specs.ReportAudit.{judging_by}
use Rattle.outcome_text.specs.Tables.{lines_by}
use Rattle.outcome_text.proofs.Lines.{AreTold}
use Rattle.outcome_text.proofs.calls.Kept.push_calls.Given as goal

abbrev pub invariant-loop-place : goal.invariant-loop-place
invariant-loop-place l =
    let kept = l.self in
    AreTold (lines_by (judging_by kept.policy.now.rules) kept.hidden.now (reverse kept.events.now) kept.calls.now kept.sessions.now kept.served.now l.name) l.name (reverse (take l.place kept.events.now)) l.fn.line l.line l.number
