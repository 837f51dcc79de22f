use Rattle.std.proofs.Common.{zero, suc, true, List, [], ◌∷◌, refl, arith}
use Rattle.std.proofs.lemmas.Bool.{or_right}
use Rattle.hist_model.specs.Legal.{IsWithin, NoWorkerAbove}
use Rattle.hist_model.specs.declared.event.Actor.{Actor}
use Rattle.hist_model.specs.declared.event.Actor.TheVariants.{Listener, Start, Task, Worker}
use Rattle.hist_model.specs.declared.event.Event.{Event}
use Rattle.delay_bounded.specs.Circle.{in_hand}
use Rattle.delay_bounded.specs.Laws.{IsLowest, StepsAsLowest}
use Rattle.delay_bounded.proofs.laws.one_is_lowest.Goals as goal

lowest : (K : List Event) (a : Actor) → IsWithin 0 a → IsLowest K a
lowest K (Worker zero) within = or_right (in_hand K 0) true refl
lowest K (Worker (suc w)) within = absurd (omega arith)
lowest K (Task n) within = tt
lowest K Start within = tt
lowest K Listener within = tt

all_lowest : (K : List Event) → NoWorkerAbove 0 K → StepsAsLowest K
all_lowest [] within = tt
all_lowest (e ∷ K) within = (lowest K e.who within.0, all_lowest K within.1)

pub returns : goal.returns
returns c = all_lowest
