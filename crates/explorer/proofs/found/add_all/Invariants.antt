use Rattle.std.proofs.Common.{◌≡◌}
use Rattle.explorer.specs.Tallies.{merged}
use Rattle.explorer.proofs.found.add_all.Given as goal

abbrev pub invariant-loop-outcome : goal.invariant-loop-outcome
invariant-loop-outcome l = l.outcomes.items ≡ merged l.fn.outcomes.items l.yielded
