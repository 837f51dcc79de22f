-- By `row_ok`.
use Rattle.audit_log.proofs.SessionRows.{row_ok}
use Rattle.audit_log.proofs.session_table.advance_row.Goals as goal

pub returns : goal.returns
returns c =
    row_ok c.step.result c.args.policy.now.rules c.args.rows.now.items c.args.row c.args.place c.args.what.now c.args.notif.now c.args.capture.now c.step.new.capture c.index_mut-session.result.now c.step.new.self _
    c.index_mut-session.ensures.value c.step.ensures
