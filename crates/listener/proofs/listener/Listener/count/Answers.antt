-- The count of the queue's state is that of the history.
use Rattle.std.proofs.Common.{◌∙◌, ◌-◌, ap}
use Rattle.history_frames.specs.Ordinals.{task_name_of}
use Rattle.hist_model.specs.Calls.{calls}
use Rattle.listener.proofs.Stand.{looks}
use Rattle.listener.proofs.listener.Listener.count.Goals as goal

pub returns : goal.returns
returns c first K S =
    let L = c.args.self.now in
    let l = looks first K L S in
    c.count.ensures (task_name_of K) L.requests ∙ (ap (λ n. n - L.queue.received) l.entered_is ∙ ap (λ n. calls K - n) l.received_is)
