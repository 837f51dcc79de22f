-- One more event is noted: by `answered_more`.
use Rattle.std.proofs.Common.{◌+◌, sym, ap, subst, ◌∙◌, arith}
use Rattle.audit_log.specs.Places.{call_in}
use Rattle.audit_log.specs.Served.{noted}
use Rattle.audit_check.proofs.Traced.{Answered, all_answered, answered_more, none_answered}
use Rattle.audit_check.proofs.trail.answered_calls.Goals as goal

pub loop-place-init : goal.loop-place-init
loop-place-init c = none_answered (call_in c.args.calls.now.answered) c.in_ok-found.found.items c.args.room c.in_ok-found.ensures

pub loop-place-preserved : goal.loop-place-preserved
loop-place-preserved c =
    let i = c.loop-place.place in
    subst (Answered (call_in c.args.calls.now.answered) c.args.room (i + 1)) (sym (c.note.ensures ∙ ap (λ o. noted o i c.loop-place.found.items) c.answered.ensures))
    (answered_more (call_in c.args.calls.now.answered) c.args.room i c.loop-place.found.items c.loop-place.invariant)

pub returns : goal.returns
returns c = all_answered (call_in c.args.calls.now.answered) c.args.room c.loop-place.place c.loop-place.found.items (omega arith) c.loop-place.invariant
