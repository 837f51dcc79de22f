use Rattle.std.proofs.Common.{refl, sym, ◌∙◌}
use Rattle.hist_model.specs.Steps.{next_child}
use Rattle.hist_model.specs.Tasks.{next_pid}
use Rattle.hist_model.specs.declared.event.SpawnKind.TheVariants.{Shared}
use Rattle.hist_model.specs.declared.script.Instr.TheVariants.{Thread}
use Rattle.model_kernel.proofs.Words.{groups_after, memories_in, named, past, step_by}
use Rattle.model_kernel.proofs.TaskSteps.{own, counts, spawn-made, spawned, thread-joins}
use Rattle.model_kernel.proofs.kernel.Kernel.make_thread.Goals as goal

pub join_group-requires : goal.join_group-requires
join_group-requires c = rw c.group-group.ensures.at (counts c.args.self.now c.args.task c.requires.ready)

pub returns : goal.returns
returns c =
    let k = c.args.self.now in
    let m = c.requires.ready in
    let w = c.spawn-what.result in
    let e = step_by k c.args.task w in
    let n = named k c.args.task in
    let d = next_pid k.script.pidbase k.script.pidmax (past k) in
    let answer = c.spawn-what.ensures.answer k.script (past k) m.kernel.tasks m.made in
    spawned k c.args.task w c.spawn-what.new.self c.join_group.new.groups c.group-group.result (next_child (past k) n) d Shared m c.requires.tasks (c.requires.due ∙ sym answer) answer
    (c.spawn-what.ensures.stands k.script (past k) e m.kernel.tasks (record { own = own k c.args.task w m (c.requires.due ∙ sym answer); instr = Thread c.args.program; next = c.requires.next; starts_is = refl; group_is = c.group-group.ensures.group k.script (past k) m.kernel.tasks m.made }) refl)
    c.spawn-what.ensures.count
    (λ h. thread-joins k.script (past k) e _ (memories_in k.resources.workers) c.join_group.new.groups (spawn-made e (next_child (past k) n) d Shared answer h)
    (c.join_group.ensures.made h (groups_after k (past k)) m.kernel.resources.groups)) c.join_group.ensures.refused
