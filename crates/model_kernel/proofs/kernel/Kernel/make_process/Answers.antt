use Rattle.std.proofs.Common.{◌+◌, refl, sym, ap, ◌∙◌, arith}
use Rattle.hist_model.specs.Steps.{next_child}
use Rattle.hist_model.specs.Tasks.{next_pid}
use Rattle.hist_model.specs.declared.event.SpawnKind.TheVariants.{Copied}
use Rattle.hist_model.specs.declared.script.Instr.TheVariants.{Spawn as InstrSpawn}
use Rattle.history_frames.specs.Ordinals.{groups_made}
use Rattle.tasks.specs.Stands.{one_made}
use Rattle.task_groups.proofs.Events.{copies_of}
use Rattle.model_kernel.proofs.Words.{groups_after, living_in, memories_in, named, past, respects, step_by}
use Rattle.model_kernel.proofs.Numbers.{groups-few}
use Rattle.model_kernel.proofs.TaskSteps.{own, counts, spawn-made, spawned}
use Rattle.model_kernel.proofs.kernel.Kernel.make_process.Goals as goal

pub overflow_cast-copy : goal.overflow_cast-copy
overflow_cast-copy c =
    let k = c.args.self.now in
    let made = c.made-copy.ensures (groups_after k (past k)) c.requires.ready.kernel.resources.groups in
    omega (arith, made, groups-few (past k), c.requires.ready.kernel.few)

pub copy_group-requires-clause-live : goal.copy_group-requires-clause-live
copy_group-requires-clause-live c = rw c.group-group.ensures.at (counts c.args.self.now c.args.task c.requires.ready)

pub returns : goal.returns
returns c =
    let k = c.args.self.now in
    let m = c.requires.ready in
    let w = c.spawn-what.result in
    let e = step_by k c.args.task w in
    let n = named k c.args.task in
    let s = groups_after k (past k) in
    let d = next_pid k.script.pidbase k.script.pidmax (past k) in
    let answer = c.spawn-what.ensures.answer k.script (past k) m.kernel.tasks m.made in
    let own_group = c.group-group.ensures.group k.script (past k) m.kernel.tasks m.made in
    let next = c.made-copy.ensures s m.kernel.resources.groups in
    spawned k c.args.task w c.spawn-what.new.self c.copy_group.new.groups (groups_made (past k)) (next_child (past k) n) d Copied m c.requires.tasks (c.requires.due ∙ sym answer) answer
    (c.spawn-what.ensures.stands k.script (past k) e m.kernel.tasks (record { own = own k c.args.task w m (c.requires.due ∙ sym answer); instr = InstrSpawn c.args.program; next = c.requires.next; starts_is = refl; group_is = next }) refl)
    (λ g. c.spawn-what.ensures.count g ∙ ap (λ x. living_in k.tasks g + one_made w x g) next)
    (λ h. respects _ _ _ (copies_of k.script (past k) e (living_in k.tasks) (memories_in k.resources.workers) c.group-group.result
    (record { spawn = spawn-made e (next_child (past k) n) d Copied answer h; group = own_group.0; own = own_group.2; at = own_group.1 })) (c.copy_group.ensures.made h s m.kernel.resources.groups)) c.copy_group.ensures.refused
