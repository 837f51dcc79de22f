use Rattle.std.proofs.Common.{ap, ◌∙◌}
use Rattle.hist_model.specs.Steps.{pid_named}
use Rattle.hist_model.specs.Tasks.{parent}
use Rattle.history_frames.specs.Ordinals.{task_name_of}
use Rattle.tasks.specs.Table.{member, table_of}
use Rattle.tasks.proofs.Asked.{no-pid, no-task, parent-named, parentless}
use Rattle.tasks.proofs.table.Tasks.parent_pid.Goals as goal

pub returns-in-Some-parent : goal.returns-in-Some-parent
returns-in-Some-parent c S K s l =
    let T = table_of c.args.self.now in
    c.pid.ensures S K s ∙ ap (pid_named K) (parent-named S K T s.is_table c.args.o c.in-Some-parent.parent (member c.in-Some.task.now) c.in-Some.ensures.some c.in-Some-parent.is)

pub returns-in-None-parent : goal.returns-in-None-parent
returns-in-None-parent c S K s l =
    let T = table_of c.args.self.now in
    no-pid S K T s.is_table (parent (task_name_of K c.args.o)) (parentless S K T s.is_table c.args.o (member c.in-Some.task.now) c.in-Some.ensures.some c.in-None-parent.is)

pub returns-in-None : goal.returns-in-None
returns-in-None c S K s l = absurd (no-task S K (table_of c.args.self.now) s.is_table c.args.o l c.in-None.ensures.none)
