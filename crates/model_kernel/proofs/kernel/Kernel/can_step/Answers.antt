use Rattle.std.proofs.Common.{ap, sym, not, ◌∙◌}
use Rattle.hist_model.specs.Kinds.{skips}
use Rattle.tasks.proofs.Told.{skips-gone}
use Rattle.model_kernel.proofs.Words.{named, past, system, What}
use Rattle.model_kernel.proofs.kernel.Kernel.can_step.Goals as goal

pub returns-then-has_ended : goal.returns-then-has_ended
returns-then-has_ended c =
    let k = c.args.self.now in
    let ended = sym (c.has_ended.ensures.ended k.script (past k) c.requires.kernel.tasks c.requires.made) ∙ c.if-has_ended.true in
    ap (λ (w : What). not (skips w)) (sym (skips-gone (system k) (past k) (named k c.args.task) ended))
