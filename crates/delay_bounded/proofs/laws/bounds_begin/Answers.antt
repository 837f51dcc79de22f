use Rattle.std.proofs.Common.{refl}
use Rattle.delay_bounded.specs.Explored.{explored}
use Rattle.delay_bounded.proofs.laws.bounds_begin.Goals as goal

pub returns : goal.returns
unfolding explored
returns c = λ P S W d. refl
