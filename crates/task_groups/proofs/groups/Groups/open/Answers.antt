use Rattle.std.proofs.Common.{Some}
use Rattle.task_groups.proofs.Answered.{lowest-some, lowest-none}
use Rattle.task_groups.proofs.Stand.{slotted, marked}
use Rattle.task_groups.proofs.groups.Groups.open.Goals as goal

pub returns-then-number-self-clause-number : goal.returns-then-number-self-clause-number
returns-then-number-self-clause-number c s T = lowest-none s c.args.self.now T c.args.o c.first_free-number.result c.requires.live c.first_free-number.ensures c.if-number-self.true

pub returns-clause-number : goal.returns-clause-number
returns-clause-number c s T = lowest-some s c.args.self.now T c.args.o c.first_free-number.result c.requires.live c.first_free-number.ensures c.if-number-self.false

pub returns-clause-step : goal.returns-clause-step
returns-clause-step c s T = slotted s c.args.self.now T c.put.new.self c.args.o c.first_free-number.result (Some (record { number = c.first_free-number.result; obj = c.args.obj; cloexec = c.args.cloexec })) c.requires.live c.put.ensures.put c.put.ensures.pages

pub returns-clause-marks : goal.returns-clause-marks
returns-clause-marks c = marked c.args.self.now c.put.new.self c.args.o c.first_free-number.result (Some (record { number = c.first_free-number.result; obj = c.args.obj; cloexec = c.args.cloexec })) c.requires.live c.put.ensures.put
