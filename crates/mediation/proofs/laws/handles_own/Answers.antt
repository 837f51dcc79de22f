use Rattle.mediation.proofs.Handles as lemma
use Rattle.mediation.proofs.laws.handles_own.Goals as goal

pub returns : goal.returns
returns c = λ S R K legal room w call t g s. (lemma.steady S R K legal room w call s).handles t g
