-- The actor of a line is that of its second word.
-- By what stands before and behind its first space (`first_word`, `behind_word`).
use Rattle.std.proofs.lemmas.Result.{IfOk-weaker}
use Rattle.std.proofs.Common.{ap, ◌∙◌}
use Rattle.audit_check.specs.Actors.{actor_in, actor_of}
use Rattle.audit_check.proofs.actor.actor_in.Goals as goal

pub returns : goal.returns
unfolding actor_in
returns c = IfOk-weaker c.actor_of.result _ _ (λ a h. h ∙ ap actor_of (c.first_word.ensures ∙ c.behind_word.ensures)) c.actor_of.ensures
