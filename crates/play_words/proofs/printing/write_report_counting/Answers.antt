-- The journal is written, and then what stands behind it: by what is written one text after another, and the grouping of texts.
use Rattle.std.proofs.Common.{rules, ◌≡◌, ℕ, List, ◌++◌, Err, append_assoc, subst}
use Rattle.hist_model.specs.Report.{summary}
use Rattle.hist_model.specs.ReportAudit.{audit, judging_by}
use Rattle.hist_model.specs.ReportCalls.{calls}
use Rattle.hist_model.specs.ReportJournal.{journal}
use Rattle.audit_log.specs.Rest.{rest}
use Rattle.audit_log.specs.Written.{Wrote}
use Rattle.audit_log.proofs.Writing.{wrote_more, wrote_stopped}
use Rattle.play_words.proofs.printing.write_report_counting.Goals as goal

grouped : (a b c d : List ℕ) → a ++ (b ++ c ++ d) ≡ a ++ b ++ c ++ d
grouped a b c d = simp append_assoc

pub returns-in_err-write_journal-clause-wrote : goal.returns-in_err-write_journal-clause-wrote
returns-in_err-write_journal-clause-wrote g c =
    let J = judging_by c.args.policy.now.rules in
    let K = c.args.history.now.events in
    let stopped : c.from_residual.result ≡ Err c.in_err-write_journal.field-0.0 = search rules in
    subst (λ text. Wrote (g.O.Sink.state c.args.out.now) text c.from_residual.result (g.O.Sink.state c.write_journal.new.out)) (grouped (journal K) (calls K) (audit J K) (summary J K))
    (wrote_stopped _ _ (journal K) (rest J K) _ _ stopped c.in_err-write_journal.ensures)

pub returns-clause-wrote : goal.returns-clause-wrote
returns-clause-wrote g c =
    let J = judging_by c.args.policy.now.rules in
    let K = c.args.history.now.events in
    subst (λ text. Wrote (g.O.Sink.state c.args.out.now) text c.write_rest_counting.result (g.O.Sink.state c.write_rest_counting.new.out)) (grouped (journal K) (calls K) (audit J K) (summary J K))
    (wrote_more _ _ _ (journal K) (rest J K) _ c.in_ok-write_journal.ensures c.write_rest_counting.ensures.wrote)
