use Rattle.std.proofs.Common.{sym, ◌∙◌}
use Rattle.history_frames.specs.Ordinals.{task_name_of}
use Rattle.listener.proofs.Stand.{none-listed, some-listed}
use Rattle.listener.proofs.listener.Listener.is_idle.Goals as goal

pub returns-clause-none : goal.returns-clause-none
returns-clause-none c h first K S = none-listed first K c.args.self.now S (sym (c.is_empty.ensures (task_name_of K) c.args.self.now.requests) ∙ h)

pub returns-clause-some : goal.returns-clause-some
returns-clause-some c h first K S = some-listed first K c.args.self.now S (sym (c.is_empty.ensures (task_name_of K) c.args.self.now.requests) ∙ h)
