-- The lines are those of the trail: by `trail_same`.
use Rattle.std.proofs.Common.{◌≡◌, length, refl, reverse, sym, ap, subst, ◌∙◌}
use Rattle.std.proofs.lemmas.List.{length-reverse}
use Rattle.hist_model.specs.ReportAudit.{judging_by}
use Rattle.audit_log.specs.Places.{call_in}
use Rattle.audit_log.specs.Tables.{TellsTables}
use Rattle.audit_log.specs.Written.{Wrote}
use Rattle.audit_log.specs.Served.{TellsSessions}
use Rattle.audit_log.proofs.ServedCalls.{same_sessions}
use Rattle.audit_check.specs.Traced.{TellsAnswers}
use Rattle.audit_check.specs.Trail.{trail}
use Rattle.audit_check.proofs.Traced.{same_answers, trail_same}
use Rattle.audit_check.proofs.trail.write_trail.Goals as goal

pub returns : goal.returns
returns g c =
    let J = judging_by c.args.policy.now.rules in
    let xs = c.events-events.result.now in
    let H = reverse xs in
    let calls = call_in c.args.tables.now.calls.received in
    let rows = c.as_slice-sessions.result.now in
    let served = c.as_slice.result.now in
    let installed = c.as_slice-2.result.now in
    let size : length xs ≡ length H = sym (length-reverse xs) in
    let told : TellsTables c.args.policy.now.rules H c.args.tables.now = subst (λ K. TellsTables c.args.policy.now.rules K c.args.tables.now) c.events-events.ensures c.requires in
    let sessions : TellsSessions calls rows (length H) served =
    same_sessions calls rows rows (length xs) (length H) c.in_ok-served.served.items served refl size (sym c.as_slice.ensures.value) c.in_ok-served.ensures in
    let answers : TellsAnswers H (length H) installed =
    same_answers H (length xs) (length H) c.in_ok-installed.installed.items installed size (sym c.as_slice-2.ensures.value) (c.in_ok-installed.ensures H (sym size) told.calls.answered) in
    let lines = trail_same J H rows calls served installed (c.as_slice-sessions.ensures.value ∙ told.sessions) told.calls.received sessions answers in
    subst (λ text. Wrote (g.O.Sink.state c.args.out.now) text c.write_lines.result (g.O.Sink.state c.write_lines.new.out)) (lines ∙ ap (trail J) (sym c.events-events.ensures)) c.write_lines.ensures
