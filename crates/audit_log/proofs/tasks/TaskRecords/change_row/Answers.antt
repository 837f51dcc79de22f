-- The name's row alone is changed.
use Rattle.std.proofs.Common.{refl, rules}
use Rattle.audit_log.proofs.Named.{put_told}
use Rattle.audit_log.proofs.tasks.TaskRecords.change_row.Goals as goal

pub returns-in-Some-clause-row : goal.returns-in-Some-clause-row
returns-in-Some-clause-row c =
    put_told c.args.name.now c.args.name.now c.args.self.now.rows (c.get_mut.follows.lender c.args.facts) c.args.facts refl ((c.get_mut.follows.holds c.args.facts).3 (search rules))
