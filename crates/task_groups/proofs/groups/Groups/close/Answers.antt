use Rattle.std.proofs.Common.{None, ap}
use Rattle.hist_model.specs.Natives.{is_open}
use Rattle.task_groups.proofs.Stand.{slotted, marked}
use Rattle.task_groups.proofs.groups.Groups.close.Goals as goal

pub returns-in_default-clause-open : goal.returns-in_default-clause-open
returns-in_default-clause-open c s T = ap is_open (c.in_default.ensures s T)

pub returns-clause-open : goal.returns-clause-open
returns-clause-open c s T = ap is_open (c.in-Some.ensures s T)

pub returns-clause-step : goal.returns-clause-step
returns-clause-step c s T = slotted s c.args.self.now T c.take.new.self c.args.o c.args.n None c.requires c.take.ensures.put c.take.ensures.pages

pub returns-clause-marks : goal.returns-clause-marks
returns-clause-marks c = marked c.args.self.now c.take.new.self c.args.o c.args.n None c.requires c.take.ensures.put
