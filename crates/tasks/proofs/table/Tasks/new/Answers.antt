use Rattle.std.proofs.Common.{refl, ap, sym}
use Rattle.tasks.proofs.Stood.{stands-none}
use Rattle.tasks.specs.Table.{members}
use Rattle.tasks.proofs.table.Tasks.new.Goals as goal

pub returns : goal.returns
returns c S b p = record { is_table = stands-none S _ (ap members c.new.ensures.items) c.new-2.ensures.items (sym b) refl (sym b) (rw (b, p) refl) }
