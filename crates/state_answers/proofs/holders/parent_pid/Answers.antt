-- The parent was found, and lives.
use Rattle.std.proofs.Common.{sym, ◌∙◌}
use Rattle.model_kernel.specs.Kernels.{past}
use Rattle.state_answers.proofs.Parents.{parent_lives}
use Rattle.state_answers.proofs.holders.parent_pid.Goals as goal

pub returns-else-has_ended : goal.returns-else-has_ended
returns-else-has_ended c =
    let K = past c.args.kernel.now in
    let found = c.in-Some.ensures.some c.requires in
    c.pid.ensures c.requires
    ∙ parent_lives K c.args.name.now c.in-Some.task found.0 (found.1 ∙ c.parent.ensures) (sym (c.has_ended.ensures c.requires found.0) ∙ c.if-has_ended.false)
