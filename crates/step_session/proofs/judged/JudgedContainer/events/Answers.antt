use Rattle.std.proofs.Common.{length, ap, ◌∙◌}
use Rattle.step_session.proofs.judged.JudgedContainer.events.Goals as goal

pub returns : goal.returns
returns c S K stands = c.len.ensures ∙ ap length (c.history.ensures S K stands)
