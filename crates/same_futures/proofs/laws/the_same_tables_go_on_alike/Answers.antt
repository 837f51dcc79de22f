use Rattle.same_futures.proofs.SameTables.{go-on-alike, has-states-of, stand-for-states}
use Rattle.same_futures.proofs.laws.the_same_tables_go_on_alike.Goals as goal

pub returns-clause-states : goal.returns-clause-states
returns-clause-states c = stand-for-states

pub returns-clause-alike : goal.returns-clause-alike
returns-clause-alike c = λ a b s. (has-states-of a b s, go-on-alike a b s)
