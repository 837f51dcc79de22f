use Rattle.hist_model.specs.Legal.{started}
use Rattle.step_session.specs.Lines.{history_after}
use Rattle.step_session.proofs.Histories.{short_history}
use Rattle.step_session.proofs.laws.short_histories_are_of_the_kernel.Goals as goal

pub returns : goal.returns
returns c P S lines short = short_history S (history_after P S (started S) lines) (c.histories_are_of_the_kernel.ensures P S lines) short
