use Rattle.std.proofs.Common.{refl, arith}
use Rattle.hist_model.specs.Calls.{count}
use Rattle.delay_bounded.specs.Laws.{with_empty_receives}
use Rattle.delay_bounded.proofs.Complete.{is_explored}
use Rattle.delay_bounded.proofs.Extending.{goes_over, longer}
use Rattle.delay_bounded.proofs.Turns.{turn_by_turn}
use Rattle.delay_bounded.proofs.laws.all_finished_is_complete.Goals as goal

pub returns : goal.returns
returns c = λ P S W K few short k finished.
    let H = with_empty_receives (count K) K in
    let (g, over) = goes_over P S W (count K) K refl k finished in
    is_explored P S W H few (omega (arith, short, longer (count K) K)) (turn_by_turn P S W H g.goes_on g.no_skip g.within g.lowest) over
