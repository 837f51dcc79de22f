-- A step that enters a call gives no PID, and one that gives a PID enters no call: by `entered_after` and `given_after`.
use Rattle.std.proofs.Common.{◌≡◌, List, ℕ, sym, ◌∙◌, Some, if◌then◌else◌}
use Rattle.hist_model.specs.Look.{is_task, or_else}
use Rattle.hist_model.specs.ReportCalls.{pid_given}
use Rattle.audit_log.specs.Tasks.{facts_in}
use Rattle.audit_log.proofs.Named.{entered_after, facts-with, given_after}
use Rattle.audit_log.proofs.Recorded.{where_ok}
use Rattle.audit_log.proofs.tasks.TaskRecords.note.Goals as goal

pub returns-then-enters : goal.returns-then-enters
returns-then-enters c = λ known.
    let e = c.args.event.now in
    let old = facts_in c.args.self.now in
    where_ok c.note_call.result (λ (h : (n : List ℕ) → facts_in c.note_call.new.self n ≡ facts-with (old n).pid (if is_task e.who n then Some c.args.place else (old n).newest)).
    λ n. h n ∙ entered_after c.args.place e n (old n) (sym c.enters.ensures ∙ c.if-enters.true)
    ) (c.note_call.ensures known)

pub returns : goal.returns
returns c = λ known.
    let e = c.args.event.now in
    let old = facts_in c.args.self.now in
    where_ok c.note_pid.result (λ (h : (n : List ℕ) → facts_in c.note_pid.new.self n ≡ facts-with (or_else (old n).pid (pid_given e.what n)) (old n).newest).
    λ n. h n ∙ given_after c.args.place e n (old n) (sym c.enters.ensures ∙ c.if-enters.false)
    ) c.note_pid.ensures
