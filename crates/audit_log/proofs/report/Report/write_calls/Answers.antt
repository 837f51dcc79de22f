-- The title and the lines are the calls: by `calls_whole`.
use Rattle.std.proofs.Common.{◌≡◌, ◌∙◌, Err, List, ℕ, rules, subst}
use Rattle.std.specs.Prelude.{codes}
use Rattle.std.specs.List.{flat_map}
use Rattle.hist_model.specs.ReportJournal.{title}
use Rattle.audit_log.specs.Records.{line_at}
use Rattle.audit_log.specs.Written.{Wrote}
use Rattle.audit_log.proofs.Recorded.{calls_whole}
use Rattle.audit_log.proofs.Writing.{wrote_more, wrote_stopped}
use Rattle.audit_log.proofs.report.Report.write_calls.Goals as goal

pub returns-in_err-write_title : goal.returns-in_err-write_title
returns-in_err-write_title g c =
    let r = c.args.self.now in
    let H = r.history.now.events in
    let t = r.tables.now.calls.entered in
    let failed : c.from_residual.result ≡ Err c.in_err-write_title.field-0.0 = search rules in
    subst (λ (text : List ℕ). Wrote (g.O.Sink.state c.args.out.now) text c.from_residual.result (g.O.Sink.state c.write_title.new.out))
    (calls_whole t H c.len.result r.told.calls.entries r.told.calls.records (c.len.ensures ∙ t.places.ok.0))
    (wrote_stopped _ _ (title (codes "calls") c.len.result) (flat_map (line_at t H) t.places.items) _ _ failed c.in_err-write_title.ensures)

pub returns : goal.returns
returns g c =
    let r = c.args.self.now in
    let H = r.history.now.events in
    let t = r.tables.now.calls.entered in
    subst (λ (text : List ℕ). Wrote (g.O.Sink.state c.args.out.now) text c.write_entered.result (g.O.Sink.state c.write_entered.new.out))
    (calls_whole t H c.len.result r.told.calls.entries r.told.calls.records (c.len.ensures ∙ t.places.ok.0))
    (wrote_more _ _ _ (title (codes "calls") c.len.result) (flat_map (line_at t H) t.places.items) _ c.in_ok-write_title.ensures c.write_entered.ensures)
