-- The number of its outcome.
use Rattle.std.proofs.Common.{ap, ◌∙◌}
use Rattle.broker_verdict.specs.Answers.{number_in}
use Rattle.judge_pass.proofs.outcomes.gave.Goals as goal

pub returns : goal.returns
returns c = λ P S h. c.number_in.ensures ∙ ap number_in (c.outcome.ensures P S h)
