use Rattle.std.proofs.Common.{◌≡◌, ◌<◌, not, arith}
use Rattle.hist_model.specs.Kinds.{skips}
use Rattle.history_frames.specs.Ordinals.{tasks_made}
use Rattle.model_kernel.specs.Steps.{due_step}
use Rattle.explorer.specs.Runs.{story}
use Rattle.explorer.proofs.AbleRuns.{task_there, task_unable}
use Rattle.explorer.proofs.run.Run.may_be_able.Goals as goal

pub returns-then-place-tasks : goal.returns-then-place-tasks
returns-then-place-tasks c = λ P going none.
    let r = c.args.self.now in
    let can : c.can_step.result ≡ not (skips (due_step r.machine.kernel c.args.place)) = cc in
    let number : c.tasks-tasks.result ≡ tasks_made (story r) = (rw c.kernel.ensures at c.tasks-tasks.ensures) going.at.served.kernel in
    let made : c.args.place < tasks_made (story r) = omega (arith, number, c.if-place-tasks.true) in
    task_there P r c.args.place made (task_unable P r c.args.place c.can_step.result can none)
