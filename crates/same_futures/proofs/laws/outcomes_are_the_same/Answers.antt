use Rattle.same_futures.proofs.KeptLines.{result-same}
use Rattle.same_futures.proofs.Outcomes.{come-to-the-same}
use Rattle.same_futures.proofs.laws.outcomes_are_the_same.Goals as goal

pub returns-clause-so_far : goal.returns-clause-so_far
returns-clause-so_far c = λ S J ts cs K L same lines. result-same S J K L lines same.tree_is

pub returns-clause-walks : goal.returns-clause-walks
returns-clause-walks c = come-to-the-same
