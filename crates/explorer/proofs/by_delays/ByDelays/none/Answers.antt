use Rattle.std.proofs.Common.{refl}
use Rattle.explorer.proofs.ByDelays.{none_told}
use Rattle.explorer.proofs.by_delays.ByDelays.none.Goals as goal

pub returns-clause-tells : goal.returns-clause-tells
returns-clause-tells c = λ P S. none_told P S _ c.new.ensures.items refl
