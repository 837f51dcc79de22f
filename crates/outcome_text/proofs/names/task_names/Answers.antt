-- One more event is past.
use Rattle.std.proofs.Common.{get_or, sym, ap, ◌∙◌, arith, rules}
use Rattle.audit_log.proofs.Past.{past_more}
use Rattle.outcome_text.specs.Outcomes.{names_with, task_names}
use Rattle.outcome_text.proofs.names.task_names.Goals as goal

pub loop-place-init : goal.loop-place-init
unfolding task_names
loop-place-init c = search rules

pub loop-place-preserved : goal.loop-place-preserved
unfolding task_names
loop-place-preserved c =
    let xs = c.args.events.now in
    let i = c.loop-place.place in
    let d = c.index-events-place.result in
    c.in_ok-note.ensures ∙ (ap (names_with (get_or xs i d).what) c.loop-place.invariant ∙ sym (ap task_names (past_more xs i d (omega arith))))
