use Rattle.explorer.proofs.Counts.{counted_outcomes}
use Rattle.explorer.proofs.FoundTexts.{finds_each}
use Rattle.explorer.proofs.laws.outcomes_are_counted.Goals as goal

pub returns-clause-each : goal.returns-clause-each
returns-clause-each c = finds_each

pub returns-clause-all : goal.returns-clause-all
returns-clause-all c = counted_outcomes
