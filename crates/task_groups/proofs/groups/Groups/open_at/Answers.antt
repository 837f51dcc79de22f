use Rattle.std.proofs.Common.{Some}
use Rattle.task_groups.proofs.Stand.{slotted, marked}
use Rattle.task_groups.proofs.groups.Groups.open_at.Goals as goal

pub returns-clause-step : goal.returns-clause-step
returns-clause-step c s T = slotted s c.args.self.now T c.put.new.self c.args.o c.args.n (Some (record { number = c.args.n; obj = c.args.obj; cloexec = c.args.cloexec })) c.requires.live c.put.ensures.put c.put.ensures.pages

pub returns-clause-marks : goal.returns-clause-marks
returns-clause-marks c = marked c.args.self.now c.put.new.self c.args.o c.args.n (Some (record { number = c.args.n; obj = c.args.obj; cloexec = c.args.cloexec })) c.requires.live c.put.ensures.put
