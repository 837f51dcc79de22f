use Rattle.same_futures.specs.Walks.{IsAlike}
use Rattle.same_futures.proofs.Walks.{as-long, told-alike, walk-alike}
use Rattle.same_futures.proofs.laws.walks_are_alike.Goals as goal

pub returns-clause-walks : goal.returns-clause-walks
returns-clause-walks c = walk-alike

pub returns-clause-told : goal.returns-clause-told
returns-clause-told c = λ S. told-alike (IsAlike S)

pub returns-clause-long : goal.returns-clause-long
returns-clause-long c = as-long
