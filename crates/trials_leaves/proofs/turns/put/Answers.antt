use Rattle.std.proofs.Common.{ap, ◌∙◌, [], ◌∷◌}
use Rattle.trials_leaves.proofs.turns.put.Goals as goal

pub returns-clause-begins : goal.returns-clause-begins
returns-clause-begins c = (c.skip.result ∷ [], c.push.ensures.events ∙ ap (λ h. c.skip.result ∷ h) c.ready.ensures.kept)
