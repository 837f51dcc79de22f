use Rattle.turn_player.proofs.TurnedKept.{turned_kept}
use Rattle.turn_player.proofs.laws.turned_is_of_the_kernel.Goals as goal

pub returns : goal.returns
returns c P S turns all = turned_kept P S turns all
