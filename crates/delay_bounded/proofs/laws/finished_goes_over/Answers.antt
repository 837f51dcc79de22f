use Rattle.hist_model.specs.Calls.{count}
use Rattle.std.proofs.Common.{refl}
use Rattle.delay_bounded.proofs.Extending.{goes_over}
use Rattle.delay_bounded.proofs.laws.finished_goes_over.Goals as goal

pub returns : goal.returns
returns c = λ P S W K k finished. goes_over P S W (count K) K refl k finished
