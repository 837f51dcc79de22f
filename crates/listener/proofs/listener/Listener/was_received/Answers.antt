use Rattle.std.proofs.Common.{ap, ◌∙◌}
use Rattle.history_frames.specs.Ordinals.{task_name_of}
use Rattle.listener.specs.Listeners.{was_fetched}
use Rattle.listener.proofs.Stand.{received-is}
use Rattle.listener.proofs.listener.Listener.was_received.Goals as goal

pub returns : goal.returns
returns c first K place S l = c.was_fetched.ensures ∙ (ap was_fetched (c.state_of.ensures (task_name_of K) c.args.self.now.requests) ∙ received-is first K c.args.self.now S place c.args.id l)
