use Rattle.listener.proofs.KeyParts.{listeners_end}
use Rattle.listener.proofs.laws.keys_tell_states.Goals as goal

pub returns : goal.returns
returns c = listeners_end
