-- What is noted so far is so, where what was noted before is.
use Rattle.policy_lint.specs.Found.{AreSaid}
use Rattle.policy_lint.proofs.notes.push_noted.Given as goal

abbrev pub invariant-loop-one : goal.invariant-loop-one
invariant-loop-one l = AreSaid l.rules l.fn.notes.items → AreSaid l.rules l.notes.items
