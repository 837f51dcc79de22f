use Rattle.std.proofs.Common.{◌∙◌}
use Rattle.mount_tree.proofs.Found.{entry_newest}
use Rattle.mount_tree.proofs.table.Table+NodeRow.entry.Goals as goal

pub returns-clause-entry : goal.returns-clause-entry
returns-clause-entry c = c.find.ensures.found ∙ entry_newest _ _ _
