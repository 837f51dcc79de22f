use Rattle.explorer.proofs.Keys.{keys-join}
use Rattle.explorer.proofs.laws.equal_keys_go_on_alike.Goals as goal

pub returns : goal.returns
returns c = λ P S W. keys-join P S W
