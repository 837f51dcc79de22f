-- The title tells how many events come, or is a fault; then comes the journal.
-- By what the title makes of the pass (`Openings`).
use Rattle.std.proofs.Common.{sym, ◌∙◌}
use Rattle.std.proofs.lemmas.Result.{IfOk-weaker}
use Rattle.audit_check.proofs.Cut.{empty_text}
use Rattle.audit_check.proofs.Openings.{title_faulty, title_missing, title_read}
use Rattle.audit_check.proofs.check.check_report.Goals as goal

pub returns-then-is_empty : goal.returns-then-is_empty
returns-then-is_empty c = title_missing c.args.policy.now c.args.script c.args.report.now c.rules_hold.ensures (empty_text c.args.report.now (sym c.is_empty.ensures ∙ c.if-is_empty.true))

pub returns-in-Some : goal.returns-in-Some
returns-in-Some c =
    IfOk-weaker c.journal.result _ _
    (λ found tells.
    tells c.args.report.now
    (title_read c.args.policy.now c.args.script c.args.report.now c.split_line.result.0.now c.split_line.result.1.now c.split_line.ensures.lines c.in-Some.count (sym c.in_ok-count.ensures ∙ c.in-Some.is)))
    c.journal.ensures

pub returns-in-None : goal.returns-in-None
returns-in-None c =
    title_faulty c.args.policy.now c.args.script c.args.report.now c.split_line.result.0.now c.split_line.result.1.now c.split_line.ensures.lines c.rules_hold.ensures (sym c.in_ok-count.ensures ∙ c.in-None.is)
