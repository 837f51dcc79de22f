use Rattle.std.proofs.Common.{◌≡◌, ◌++◌, take}
use Rattle.std.specs.List.{flat_map}
use Rattle.outcome_lines.specs.Lines.{gathered}
use Rattle.outcome_lines.specs.Tables.{kept_by}
use Rattle.outcome_lines.proofs.lines.Kept.push_all.Given as goal

abbrev pub invariant-loop-name : goal.invariant-loop-name
invariant-loop-name l =
    let kept = l.self in
    l.lines.items ≡ l.fn.lines.items ++ flat_map (λ n. gathered (kept_by kept.marks.now kept.history.now.events kept.calls.now kept.sessions.now kept.served.now n) kept.history.now.events) (take l.name-index l.names)
