use Rattle.tasks.proofs.KeyParts.{tables_end}
use Rattle.tasks.proofs.laws.keys_tell_states.Goals as goal

pub returns : goal.returns
returns c = tables_end
