use Rattle.std.proofs.Common.{[], refl, ap}
use Rattle.task_groups.proofs.Rows.{row-put}
use Rattle.task_groups.specs.Rows.{Row}
use Rattle.task_groups.proofs.groups.Groups.close_all.Goals as goal

pub returns-clause-put : goal.returns-clause-put
returns-clause-put c r at = row-put c.args.self.now _ c.args.o c.index_mut-row.result.now _ r _ refl c.index_mut-row.ensures.value at (λ s. rw c.new.ensures.items (ap (λ (x : Row). record x { living = 0; handles = c.args.handles; descriptors = [] }) s)) refl refl
