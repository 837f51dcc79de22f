use Rattle.std.proofs.Common.{ap, ◌∙◌}
use Rattle.history_frames.specs.Ordinals.{task_name_of}
use Rattle.listener.specs.Listeners.{back_of}
use Rattle.listener.proofs.Stand.{settled-is}
use Rattle.listener.proofs.listener.Listener.settled_back.Goals as goal

pub returns-in-Some : goal.returns-in-Some
returns-in-Some c first K place S l = settled-is first K c.args.self.now S place c.args.id _ l (c.back_of.ensures ∙ ap back_of (c.in-Some.ensures (task_name_of K) c.args.self.now.requests))

pub returns-in-None : goal.returns-in-None
returns-in-None c first K place S l = settled-is first K c.args.self.now S place c.args.id _ l (ap back_of (c.in-None.ensures (task_name_of K) c.args.self.now.requests))
