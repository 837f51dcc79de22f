-- Of no history there is no outcome.
use Rattle.std.proofs.Common.{refl, arith}
use Rattle.explorer.specs.Tallies.{tallied}
use Rattle.explorer.proofs.tally.Tally.none.Goals as goal

pub returns : goal.returns
unfolding tallied
returns c = λ P S. record { histories = refl; events = refl; longest_is = refl; each_has_events = omega arith; outcomes_are = c.new.ensures.items }
