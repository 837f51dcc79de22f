use Rattle.mediation.proofs.Common.{arith}
use Rattle.mediation.proofs.Played as lemma
use Rattle.mediation.proofs.laws.played_is_legal.Goals as goal

pub returns : goal.returns
returns c = λ P S s room. (lemma.played_is_legal P S s, room, omega arith)
