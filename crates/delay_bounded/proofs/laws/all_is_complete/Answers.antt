use Rattle.delay_bounded.proofs.Complete.{is_explored}
use Rattle.delay_bounded.proofs.Turns.{turn_by_turn}
use Rattle.delay_bounded.proofs.laws.all_is_complete.Goals as goal

pub returns : goal.returns
returns c = λ P S W K few short k over. is_explored P S W K few short (turn_by_turn P S W K k.goes_on k.no_skip k.within k.lowest) over
