-- The counts of the events are kept in the tables: the calls by their rows, and the answers by those that were sent and those that were installed.
use Rattle.std.proofs.Common.{◌≡◌, ◌+◌, ◌∙◌, arith}
use Rattle.std.specs.Prelude.{count_by}
use Rattle.hist_model.specs.Kinds.{enters}
use Rattle.hist_model.specs.ReportRequests.{answer_count}
use Rattle.hist_model.specs.declared.event.Event.{Event}
use Rattle.audit_log.proofs.Answered.{answers_few}
use Rattle.audit_log.proofs.Recorded.{entries_counted}
use Rattle.audit_log.proofs.Summed.{counts_are}
use Rattle.audit_log.proofs.report.Report.counted.Goals as goal

pub overflow_add-answered : goal.overflow_add-answered
overflow_add-answered c =
    let r = c.args.self.now in
    let few = answers_few r.history.now.events in
    let number = r.told.calls.number in
    omega (arith, few, number, r.told.counts.sent, c.len-events.ensures, c.len-installed.ensures, r.tables.now.calls.answered.places.ok.0)

pub returns : goal.returns
returns c =
    let r = c.args.self.now in
    let H = r.history.now.events in
    let t = r.tables.now in
    let entered : c.len-entered.result ≡ count_by (λ (e : Event). enters e.what) H = c.len-entered.ensures ∙ t.calls.entered.places.ok.0 ∙ entries_counted H t.calls.entered r.told.calls.entries in
    let answered : t.counts.sent + c.len-installed.result ≡ answer_count H = omega (arith, r.told.calls.number, r.told.counts.sent, c.len-installed.ensures, t.calls.answered.places.ok.0) in
    counts_are H c.args.found.now _ _ _ _ _ _ _ _ _ _ _ c.len-events.ensures entered r.told.counts.notified answered
    c.granted.ensures c.denied.ensures c.passed.ensures c.injected.ensures c.faulty.ensures c.gone.ensures c.lost.ensures
