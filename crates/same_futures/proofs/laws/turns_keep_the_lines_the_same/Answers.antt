use Rattle.same_futures.proofs.KeptLines.{lines-after-turn}
use Rattle.same_futures.proofs.laws.turns_keep_the_lines_the_same.Goals as goal

pub returns : goal.returns
returns c = λ S J ts cs K L same lines e t. lines-after-turn S ts cs K L same J e lines t
