-- The number that the effect gave.
use Rattle.std.proofs.Common.{reverse, ap, ◌∙◌}
use Rattle.broker_verdict.specs.Answers.{gave_at}
use Rattle.judge_pass.proofs.answers.number_told.Goals as goal

pub returns-in-Some : goal.returns-in-Some
returns-in-Some c = λ P S at h hand. c.gave.ensures P S h ∙ ap (gave_at (reverse c.args.before.now)) (rw c.in-Some.is at (c.in_ok-effect.ensures.place P S at h hand))

pub returns-in-None : goal.returns-in-None
returns-in-None c = λ P S at h hand. ap (gave_at (reverse c.args.before.now)) (rw c.in-None.is at (c.in_ok-effect.ensures.place P S at h hand))
