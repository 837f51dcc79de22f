-- The line is that of the history's counts, and so its summary: by `summary_told`.
use Rattle.std.proofs.Common.{◌∙◌, List, ℕ, ap, subst}
use Rattle.hist_model.specs.ReportAudit.{judging_by}
use Rattle.audit_log.proofs.Summed.{summary_told}
use Rattle.audit_log.specs.Counts.{summary_words}
use Rattle.audit_log.specs.Written.{Wrote}
use Rattle.audit_log.proofs.report.Report.write_summary.Goals as goal

pub returns-clause-wrote : goal.returns-clause-wrote
returns-clause-wrote g c =
    subst (λ (text : List ℕ). Wrote (g.O.Sink.state c.args.out.now) text c.write_counts.result (g.O.Sink.state c.write_counts.new.out))
    (ap summary_words c.in_ok-counts.ensures ∙ summary_told (judging_by c.args.self.now.policy.now.rules) c.args.self.now.history.now.events) c.write_counts.ensures
