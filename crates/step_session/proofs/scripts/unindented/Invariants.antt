-- What is left has the same bytes behind its blanks.
use Rattle.std.proofs.Common.{◌≡◌, length}
use Rattle.step_session.specs.Scripts.{unindented}
use Rattle.step_session.proofs.scripts.unindented.Given as goal

abbrev pub invariant-blanks : goal.invariant-blanks
invariant-blanks l = unindented l.line ≡ unindented l.rest

abbrev pub decreases-blanks : goal.decreases-blanks
decreases-blanks l = length l.rest
