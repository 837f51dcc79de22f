-- The name's row alone is changed.
use Rattle.audit_log.proofs.Named.{put_told}
use Rattle.audit_log.proofs.tasks.TaskRecords.add_row.Goals as goal

pub returns-clause-row : goal.returns-clause-row
returns-clause-row c = put_told c.in_ok-key.key.items c.args.name.now c.args.self.now.rows c.insert.new.self c.args.facts c.in_ok-key.ensures.items c.in_ok-insert.ensures.updates
