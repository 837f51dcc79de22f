use Rattle.std.proofs.Common.{◌≡◌, ◌++◌, reverse, take}
use Rattle.std.specs.List.{flat_map}
use Rattle.hist_model.specs.ReportAudit.{judging_by}
use Rattle.hist_model.specs.ReportJournal.{lines_of}
use Rattle.outcome_text.specs.Tables.{lines_by}
use Rattle.outcome_text.proofs.calls.Kept.push_all.Given as goal

abbrev pub invariant-loop-name : goal.invariant-loop-name
invariant-loop-name l =
    let kept = l.self in
    l.line ≡ l.fn.line ++ flat_map (λ n. lines_of (lines_by (judging_by kept.policy.now.rules) kept.hidden.now (reverse kept.events.now) kept.calls.now kept.sessions.now kept.served.now n) (reverse kept.events.now)) (take l.name-index l.names)
