use Rattle.history_frames.specs.Ordinals.{task_name_of}
use Rattle.std.proofs.Common.{refl}
use Rattle.explorer.specs.Runs.{story}
use Rattle.explorer.proofs.Running.{is_named, task_tried}
use Rattle.explorer.proofs.run.Run.try_task.Goals as goal

pub returns-in_ok-stepped : goal.returns-in_ok-stepped
returns-in_ok-stepped c =
    let old = c.args.self.now in
    let kernel = c.requires.going.at.served.kernel in
    let named = is_named old.machine.kernel c.kernel.result.now c.kernel.ensures kernel c.args.task c.name_of.result.now c.name_of.ensures c.is_task_name.result c.is_task_name.ensures c.if-is_task_name.true in
    task_tried c.args.policy.now old _ c.requires.going (task_name_of (story old) c.args.task) named refl refl c.in_ok-stepped.stepped c.in_ok-stepped.ensures.done
