use Rattle.step_session.proofs.Histories.{histories_kept}
use Rattle.step_session.proofs.laws.histories_are_of_the_kernel.Goals as goal

pub returns : goal.returns
returns c = histories_kept c.answers_are_of_the_kernel.ensures
