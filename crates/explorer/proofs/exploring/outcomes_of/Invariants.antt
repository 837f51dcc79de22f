use Rattle.std.proofs.Common.{◌≡◌}
use Rattle.explorer.proofs.exploring.outcomes_of.Given as goal

abbrev pub invariant-loop-outcome : goal.invariant-loop-outcome
invariant-loop-outcome l = l.outcomes.items ≡ l.yielded
