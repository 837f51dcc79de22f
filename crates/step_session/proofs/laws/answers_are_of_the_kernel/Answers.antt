use Rattle.step_session.proofs.Kept.{kept}
use Rattle.step_session.proofs.laws.answers_are_of_the_kernel.Goals as goal

pub returns : goal.returns
returns c P S K r asked begun = kept P S K r asked begun
