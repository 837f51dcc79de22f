use Rattle.std.proofs.Common.{◌∙◌}
use Rattle.history_frames.specs.Ordinals.{task_name_of}
use Rattle.listener.specs.Listeners.{view}
use Rattle.listener.proofs.Stand.{ids, looks}
use Rattle.listener.proofs.Told.{asks-is}
use Rattle.listener.proofs.listener.Listener.has_request.Goals as goal

pub returns-clause-stands : goal.returns-clause-stands
returns-clause-stands c first K S =
    let L = c.args.self.now in
    c.has_request.ensures ∙ asks-is first K (view L (task_name_of K)) (looks first K L S) S.asked (ids first K L S) c.args.worker
