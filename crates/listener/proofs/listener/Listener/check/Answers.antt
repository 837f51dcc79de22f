use Rattle.std.proofs.Common.{ap, ◌∙◌}
use Rattle.history_frames.specs.Ordinals.{task_name_of}
use Rattle.listener.specs.Listeners.{validity, view}
use Rattle.listener.proofs.Stand.{ids, looks}
use Rattle.listener.proofs.Told.{check-is}
use Rattle.listener.proofs.listener.Listener.check.Goals as goal

pub returns : goal.returns
returns c first K S =
    let L = c.args.self.now in
    c.check_valid.ensures ∙ (ap validity (c.state_of.ensures (task_name_of K) L.requests) ∙ check-is first K (view L (task_name_of K)) (looks first K L S) S.asked (ids first K L S) c.args.id)
