use Rattle.std.proofs.Common.{◌≡◌, reverse, take}
use Rattle.outcome_text.specs.Outcomes.{task_names}
use Rattle.outcome_text.proofs.names.task_names.Given as goal

abbrev pub invariant-loop-place : goal.invariant-loop-place
invariant-loop-place l = l.names.items ≡ task_names (reverse (take l.place l.events))
