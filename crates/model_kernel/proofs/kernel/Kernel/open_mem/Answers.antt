use Rattle.std.proofs.Common.{refl, ap, sym, Ok, Err, if◌then◌else◌, ◌∷◌, ◌∙◌}
use Rattle.sys_abi.specs.Errnos.{esrch}
use Rattle.task_groups.specs.State.{one_more, with_opened}
use Rattle.model_kernel.proofs.Words.{ev, groups_after, living_in, memories_in, OpenMem, past, Worker}
use Rattle.model_kernel.proofs.Opened.{memory-row-by, opened}
use Rattle.model_kernel.proofs.Workers.{idled, serves, taken}
use Rattle.model_kernel.proofs.kernel.Kernel.open_mem.Goals as goal

pub returns-in_default-clause-deed : goal.returns-in_default-clause-deed
returns-in_default-clause-deed c =
    idled c.args.self.now c.note.new.self c.args.worker _ _ c.requires.kernel refl (ap (λ b. OpenMem c.args.pid (if b then Ok tt else Err esrch)) (sym c.in_default.ensures.none)) c.note.ensures.events c.note.ensures.same tt

pub close-requires : goal.close-requires
close-requires c g q =
    let k = c.args.self.now in
    memory-row-by k.script (past k) (living_in k.tasks) k.resources c.requires.kernel.resources c.args.worker g (one_more (memories_in k.resources.workers) c.in-Some.group) c.opened.new.self (sym c.memory-former.ensures ∙ q)
    (c.opened.ensures (groups_after k (past k)) c.requires.kernel.resources.groups)

pub returns-clause-deed : goal.returns-clause-deed
returns-clause-deed c =
    let k = c.args.self.now in
    let (g, own, at) = c.in-Some.ensures.group in
    let e = ev (Worker c.args.worker) (OpenMem c.args.pid (Ok tt)) in
    taken k _ c.note-2.new.self c.args.worker (λ a. OpenMem c.args.pid a) _ (Ok tt) (Ok tt) c.requires.kernel refl refl (ap (λ b. if b then Ok tt else Err esrch) (sym c.in-Some.ensures.some))
    (serves k c.args.worker _ _
    (opened k.script (past k) (living_in k.tasks) k.resources c.requires.kernel.resources c.args.worker c.args.pid c.in-Some.group g c.memory-former.result c.close.new.groups c.opened_memory.new.self c.requires.worker (sym c.memory-former.ensures) own at
    (λ T one. c.close.ensures (with_opened c.in-Some.group (groups_after k (e ∷ past k))) (c.opened.ensures (groups_after k (e ∷ past k)) T) one) c.opened_memory.ensures))
    c.note-2.ensures.events c.note-2.ensures.same
