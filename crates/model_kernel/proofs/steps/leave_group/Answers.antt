use Rattle.std.proofs.Common.{sym, ◌∙◌}
use Rattle.model_kernel.proofs.steps.leave_group.Goals as goal

pub returns-then-is_end : goal.returns-then-is_end
returns-then-is_end c s T = rw (sym c.is_end.ensures ∙ c.if-is_end.true) (c.left.ensures s T)
