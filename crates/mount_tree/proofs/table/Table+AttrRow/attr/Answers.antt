use Rattle.std.proofs.Common.{◌∙◌}
use Rattle.mount_tree.proofs.Found.{attr_newest}
use Rattle.mount_tree.proofs.table.Table+AttrRow.attr.Goals as goal

pub returns-clause-attr : goal.returns-clause-attr
returns-clause-attr c = c.find.ensures.found ∙ attr_newest _ _ _
