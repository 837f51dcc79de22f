-- What is kept of the calls and the sessions gives the lines: by `lines_same`.
use Rattle.std.proofs.Common.{◌≡◌, ◌++◌, length, map, refl, sym, ap, ◌∙◌}
use Rattle.std.specs.List.{flat_map}
use Rattle.std.proofs.lemmas.List.{length-reverse}
use Rattle.hist_model.specs.ReportAudit.{judging_by}
use Rattle.audit_log.specs.Begun.{told}
use Rattle.audit_log.specs.Places.{call_in}
use Rattle.audit_log.specs.Served.{TellsSessions}
use Rattle.audit_log.specs.Sessions.{begun}
use Rattle.audit_log.proofs.ServedCalls.{same_sessions}
use Rattle.outcome_text.specs.Outcomes.{task_names}
use Rattle.outcome_lines.specs.Lines.{gathered}
use Rattle.outcome_lines.specs.Tables.{kept_by}
use Rattle.outcome_lines.proofs.Gathered.{lines_same}
use Rattle.outcome_lines.proofs.lines.lines_of.Goals as goal

pub returns : goal.returns
returns c =
    let J = judging_by c.args.policy.now.rules in
    let H = c.args.history.now.events in
    let ms = c.args.marks.now in
    let xs = c.events-events.result.now in
    let tables = c.in_ok-tables.tables in
    let rows = c.as_slice-sessions.result.now in
    let served = c.as_slice.result.now in
    let names = c.as_slice-2.result.now in
    let kept : rows ≡ map (told J) (begun H H) = c.as_slice-sessions.ensures.value ∙ c.in_ok-tables.ensures.sessions in
    let sessions : TellsSessions (call_in tables.calls.received) rows (length H) served =
    same_sessions (call_in tables.calls.received) rows rows (length xs) (length H) c.in_ok-served.served.items served refl
    (sym (length-reverse xs) ∙ ap length (sym c.events-events.ensures)) (sym c.as_slice.ensures.value) c.in_ok-served.ensures in
    let ordered : names ≡ task_names H = c.as_slice-2.ensures.value ∙ (c.in_ok-names.ensures ∙ ap task_names (sym c.events-events.ensures)) in
    c.in_ok-push_all.ensures
    ∙ (ap (λ lines. lines ++ flat_map (λ n. gathered (kept_by ms H tables.calls rows served n) H) names) c.new-lines.ensures.items
    ∙ lines_same J ms H tables.calls rows served c.in_ok-tables.ensures.calls kept sessions names ordered)
