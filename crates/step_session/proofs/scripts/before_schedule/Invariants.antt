-- What is left has the lines that are still missing.
use Rattle.std.proofs.Common.{◌≡◌, ◌++◌, length}
use Rattle.step_session.specs.Scripts.{before_schedule}
use Rattle.step_session.proofs.scripts.before_schedule.Given as goal

abbrev pub invariant-lines : goal.invariant-lines
invariant-lines l = before_schedule l.script ≡ l.front.items ++ before_schedule l.rest

abbrev pub decreases-lines : goal.decreases-lines
decreases-lines l = length l.rest
