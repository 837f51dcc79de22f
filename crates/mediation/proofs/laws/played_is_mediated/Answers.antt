use Rattle.mediation.proofs.PlayedScripts.{played_is_mediated}
use Rattle.mediation.proofs.laws.played_is_mediated.Goals as goal

pub returns : goal.returns
returns c = λ P S keeps. played_is_mediated P S keeps
