use Rattle.std.proofs.Common.{ap, sym, ◌∙◌}
use Rattle.explorer.specs.Walking.{script_at}
use Rattle.explorer.proofs.walker.Walker.into_script.Goals as goal

pub returns-in-Over : goal.returns-in-Over
returns-in-Over c = sym (ap script_at c.in-Over.is)

pub returns : goal.returns
returns c = c.in_ok-script-in-Walks.ensures.script ∙ sym (ap script_at c.in-Walks.is)
