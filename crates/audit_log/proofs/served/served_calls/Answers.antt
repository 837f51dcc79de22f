-- One more row is noted: by `served_more`.
use Rattle.std.proofs.Common.{◌+◌, sym, ap, subst, ◌∙◌}
use Rattle.audit_log.specs.Places.{call_in}
use Rattle.audit_log.specs.Served.{noted}
use Rattle.audit_log.proofs.ServedCalls.{Served, all_served, none_served, served_more}
use Rattle.audit_log.proofs.served.served_calls.Goals as goal

pub loop-row-init : goal.loop-row-init
loop-row-init c = none_served (call_in c.args.calls.now.received) c.args.sessions.now c.args.room c.in_ok-found.found.items c.in_ok-found.ensures

pub loop-row-preserved : goal.loop-row-preserved
loop-row-preserved c =
    let rows = c.args.sessions.now in
    let i = c.loop-row.row in
    subst (Served (call_in c.args.calls.now.received) rows c.args.room (i + 1)) (sym (c.note.ensures ∙ ap (λ o. noted o i c.loop-row.found.items) c.received_near-call.ensures))
    (served_more (call_in c.args.calls.now.received) rows c.args.room i c.loop-row.found.items c.index-sessions-row.result c.loop-row-test.true c.loop-row.invariant)

pub returns : goal.returns
returns c = all_served (call_in c.args.calls.now.received) c.args.sessions.now c.args.room c.loop-row.row c.loop-row.found.items c.loop-row-test.false c.loop-row.invariant
