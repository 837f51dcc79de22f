use Rattle.std.proofs.Common.{◌≡◌, true, Ok, Err, rules}
use Rattle.hist_model.specs.Files.{has_setfd}
use Rattle.task_groups.proofs.Answered.{installed, lowest-answer}
use Rattle.task_groups.proofs.groups.Groups.install.Goals as goal

pub returns-then-has_setfd-clause-answer : goal.returns-then-has_setfd-clause-answer
returns-then-has_setfd-clause-answer c s T = let h : has_setfd c.args.asked.now ≡ true = search rules in rw h (c.open_at.ensures.answer s T)

pub returns-then-has_setfd-clause-step : goal.returns-then-has_setfd-clause-step
returns-then-has_setfd-clause-step c s T = installed s c.args.self.now c.open_at.new.self c.args.o c.args.asked.now.srcfd c.open_at.result T c.open_at.ensures.step c.open_at.ensures.refused

pub returns-in-Ok-clause-answer : goal.returns-in-Ok-clause-answer
returns-in-Ok-clause-answer c s T = lowest-answer s c.args.o c.args.asked.now (Ok c.in-Ok.number) (search rules) (c.in-Ok.ensures.number s T)

pub returns-in-Ok-clause-step : goal.returns-in-Ok-clause-step
returns-in-Ok-clause-step c s T = c.in-Ok.ensures.step s T

pub returns-in-Err-clause-answer : goal.returns-in-Err-clause-answer
returns-in-Err-clause-answer c s T = lowest-answer s c.args.o c.args.asked.now (Err _) (search rules) (c.in-Err.ensures.number s T)
