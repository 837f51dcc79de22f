use Rattle.std.proofs.Common.{refl, sym, ap, ◌∙◌}
use Rattle.hist_model.specs.Steps.{slot_answer}
use Rattle.task_groups.proofs.Answered.{places}
use Rattle.task_groups.proofs.Events.{installs}
use Rattle.model_kernel.proofs.Words.{groups_after, Install, living_in, memories_in, past, respects, step_by}
use Rattle.model_kernel.proofs.TaskSteps.{acted, counts, listed-as, same-counts}
use Rattle.model_kernel.proofs.Waiting.{install-due, installs as listener-installs, group-installs}
use Rattle.model_kernel.proofs.kernel.Kernel.install.Goals as goal

pub install-answer-requires-clause-live : goal.install-answer-requires-clause-live
install-answer-requires-clause-live c = rw c.group-group.ensures.at (counts c.args.self.now c.args.task c.requires.ready)

pub install-answer-requires-clause-room : goal.install-answer-requires-clause-room
install-answer-requires-clause-room c = rw c.group-group.ensures.at c.requires.room

pub returns : goal.returns
returns c =
    let k = c.args.self.now in
    let m = c.requires.ready in
    let T = m.kernel.resources in
    let o = c.args.task in
    let x = c.args.id in
    let asked = c.args.asked.now in
    let answer = c.install-answer.result in
    let w = Install answer in
    let e = step_by k o w in
    let s = groups_after k (past k) in
    let (place, i) = c.requires.due in
    let (g, at, own_is) = c.group-group.ensures.group k.script (past k) m.kernel.tasks m.made in
    let due = install-due k o place x g asked i own_is ∙ ap Install (sym (c.install-answer.ensures.answer s T.groups ∙ ap slot_answer (places k.script (past k) (living_in k.tasks) (memories_in k.resources.workers) c.group-group.result g at asked))) in
    acted k o w c.stepped.new.self m due _ c.install-answer.new.self c.installed.new.self refl refl refl (λ own. c.stepped.ensures.stands k.script (past k) e m.kernel.tasks own refl refl)
    (same-counts k.tasks c.stepped.new.self o w refl c.stepped.ensures.count)
    (respects _ _ _
    (installs k.script (past k) e (living_in k.tasks) (memories_in k.resources.workers) c.group-group.result g asked answer at (group-installs k o place x g asked answer i own_is)) (c.install-answer.ensures.step s T.groups))
    (c.installed.ensures k.script.firstid (past k) e place T.listener (listed-as k o place x i.waits) (rw c.same_number.ensures (listener-installs k o place x asked answer i)))
