use Rattle.std.proofs.Common.{reverse, take}
use Rattle.outcome_lines.specs.Tables.{kept_by}
use Rattle.outcome_lines.proofs.Gathered.{AreGathered}
use Rattle.outcome_lines.proofs.lines.Kept.push_calls.Given as goal

abbrev pub invariant-loop-place : goal.invariant-loop-place
invariant-loop-place l =
    let kept = l.self in
    AreGathered (kept_by kept.marks.now kept.history.now.events kept.calls.now kept.sessions.now kept.served.now l.name) l.name (reverse (take l.place l.events)) l.fn.lines.items l.lines.items l.number
