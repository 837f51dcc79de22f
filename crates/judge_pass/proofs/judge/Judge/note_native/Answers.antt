use Rattle.std.proofs.Common.{refl}
use Rattle.judge_pass.proofs.TaskEvents.{idle-step}
use Rattle.judge_pass.proofs.judge.Judge.note_native.Goals as goal

pub returns-in-Err : goal.returns-in-Err
returns-in-Err c P S K e s history kind = idle-step P S K e c.args.self.now s history c.args.task kind.0.who (rw (kind.0.what_is, c.in-Err.is) refl)
