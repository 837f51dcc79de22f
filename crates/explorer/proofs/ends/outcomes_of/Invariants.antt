use Rattle.std.proofs.Common.{vec_len}
use Rattle.explorer.proofs.EndsSorted.{IsSortedSoFar}
use Rattle.explorer.proofs.ends.outcomes_of.Given as goal

abbrev pub invariant-ends : goal.invariant-ends
invariant-ends l = IsSortedSoFar l.fn.ends.items l.ends.items l.outcomes.items

abbrev pub decreases-ends : goal.decreases-ends
decreases-ends l = vec_len l.ends
