use Rattle.same_futures.proofs.Taken.{takes-turn}
use Rattle.same_futures.proofs.Walks.{begun}
use Rattle.same_futures.proofs.laws.able_actors_take_turns.Goals as goal

pub returns : goal.returns
returns c P S W tasks calls K h k few q able = takes-turn P S tasks calls K h k.goes_on.legal few (begun P S W K k) q able
