use Rattle.tasks.specs.Table.{member, table_of}
use Rattle.tasks.proofs.Stood.{row-is}
use Rattle.std.proofs.Common.{sym, ◌∙◌}
use Rattle.history_frames.specs.Ordinals.{task_name_of}
use Rattle.tasks.proofs.Places.{next-is}
use Rattle.tasks.proofs.table.Tasks.next_instr.Goals as goal

pub returns : goal.returns
returns c K s l =
    let n = task_name_of K c.args.o in
    c.instr_at.ensures ∙ sym (next-is c.args.script.now K n _ (row-is c.args.script.now K (table_of c.args.self.now) s.is_table c.args.o (member c.in_ok-task.task.now) c.in_ok-task.ensures.some))
