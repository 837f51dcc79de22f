use Rattle.std.proofs.Common.{refl, sym, ap, ◌∙◌, ◌∷◌}
use Rattle.model_kernel.proofs.Words.{living_in, named, Native, past, step_by}
use Rattle.model_kernel.proofs.NativeCalls.{counted-alike}
use Rattle.model_kernel.proofs.TaskSteps.{counts, same-counts, took}
use Rattle.model_kernel.proofs.kernel.Kernel.run_native.Goals as goal

pub run-answer-requires-clause-live : goal.run-answer-requires-clause-live
run-answer-requires-clause-live c = rw c.group-group.ensures.at (counts c.args.self.now c.args.task c.requires.ready)

pub returns : goal.returns
returns c =
    let k = c.args.self.now in
    let m = c.requires.ready in
    let T = m.kernel.resources in
    let o = c.args.task in
    let n = named k o in
    let w = Native c.run-answer.result in
    let e = step_by k o w in
    let (g, at, own_is) = c.group-group.ensures.group k.script (past k) m.kernel.tasks m.made in
    let pid_is = c.pid-pid.ensures k.script (past k) m.kernel.tasks in
    let entered = c.requires.entered g own_is in
    let due = c.requires.due ∙ ap Native (sym (c.run-answer.ensures.answer k.script (past k) (living_in k.tasks) n g T own_is at pid_is entered)) in
    took k o w c.stepped.new.self m due c.run-answer.new.self refl refl (λ own. c.stepped.ensures.stands k.script (past k) e m.kernel.tasks own refl refl)
    (counted-alike k.script (e ∷ past k) (living_in k.tasks) c.run-answer.new.self (c.run-answer.ensures.step k.script (past k) (living_in k.tasks) n g T own_is at pid_is entered) (living_in c.stepped.new.self)
    (same-counts k.tasks c.stepped.new.self o w refl c.stepped.ensures.count))
