-- What is kept of the calls and the sessions gives the lines: by `result_same`.
use Rattle.std.proofs.Common.{◌≡◌, ◌++◌, length, map, reverse, refl, sym, ap, subst, ◌∙◌}
use Rattle.std.specs.List.{flat_map}
use Rattle.std.proofs.lemmas.List.{length-reverse}
use Rattle.hist_model.specs.ReportAudit.{judging_by}
use Rattle.hist_model.specs.ReportJournal.{lines_of}
use Rattle.audit_log.specs.Begun.{told}
use Rattle.audit_log.specs.Places.{call_in}
use Rattle.audit_log.specs.Served.{TellsSessions}
use Rattle.audit_log.specs.Sessions.{begun}
use Rattle.audit_log.specs.Tables.{TellsTables}
use Rattle.audit_log.proofs.ServedCalls.{same_sessions}
use Rattle.outcome_text.specs.Outcomes.{result_with, task_names}
use Rattle.outcome_text.specs.Tables.{lines_by}
use Rattle.outcome_text.proofs.Lines.{result_same}
use Rattle.outcome_text.proofs.outcome.outcome_of.Goals as goal

pub returns : goal.returns
returns c =
    let J = judging_by c.args.policy.now.rules in
    let xs = c.events-events.result.now in
    let H = reverse xs in
    let tables = c.in_ok-tables.tables in
    let rows = c.as_slice-sessions.result.now in
    let served = c.as_slice.result.now in
    let names = c.as_slice-2.result.now in
    let tells : TellsTables c.args.policy.now.rules H tables = subst (λ K. TellsTables c.args.policy.now.rules K tables) c.events-events.ensures c.in_ok-tables.ensures in
    let kept : rows ≡ map (told J) (begun H H) = c.as_slice-sessions.ensures.value ∙ tells.sessions in
    let sessions : TellsSessions (call_in tables.calls.received) rows (length H) served =
    same_sessions (call_in tables.calls.received) rows rows (length xs) (length H) c.in_ok-served.served.items served refl
    (sym (length-reverse xs)) (sym c.as_slice.ensures.value) c.in_ok-served.ensures in
    let ordered : names ≡ task_names H = c.as_slice-2.ensures.value ∙ c.in_ok-names.ensures in
    c.into_bytes.ensures
    ∙ (c.in_ok-push_all.ensures
    ∙ (ap (λ text. text ++ flat_map (λ n. lines_of (lines_by J c.args.hidden.now H tables.calls rows served n) H) names) c.new-line.ensures
    ∙ (result_same J c.args.hidden.now H tables.calls rows served tells.calls kept sessions names ordered ∙ ap (result_with J c.args.hidden.now) (sym c.events-events.ensures))))
