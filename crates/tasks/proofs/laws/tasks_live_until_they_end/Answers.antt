use Rattle.history_frames.specs.Ordinals.{task_name_of}
use Rattle.tasks.proofs.Folds.{lives-step}
use Rattle.tasks.proofs.Named.{name-made}
use Rattle.tasks.proofs.Told.{alive-is, skips-gone, steps-living}
use Rattle.tasks.proofs.laws.tasks_live_until_they_end.Goals as goal

pub returns-clause-made : goal.returns-clause-made
returns-clause-made c K o l = name-made K o l

pub returns-clause-alive : goal.returns-clause-alive
returns-clause-alive c K o l = alive-is K (task_name_of K o) (name-made K o l)

pub returns-clause-step : goal.returns-clause-step
returns-clause-step c S K o l d = steps-living S K (task_name_of K o) (name-made K o l) d

pub returns-clause-none : goal.returns-clause-none
returns-clause-none c S K o d = skips-gone S K (task_name_of K o) d

pub returns-clause-stepped : goal.returns-clause-stepped
returns-clause-stepped c S K e o p k = lives-step S K e o p k
