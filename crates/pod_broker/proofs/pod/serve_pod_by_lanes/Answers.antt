use Rattle.std.proofs.lemmas.Result.{IfOk-weaker}
use Rattle.lane_seats.specs.Lanes.{Laned}
use Rattle.pod_broker.proofs.Ended.{all-apart}
use Rattle.pod_broker.proofs.pod.serve_pod_by_lanes.Goals as goal

pub returns-clause-apart : goal.returns-clause-apart
returns-clause-apart g c = λ none.
    IfOk-weaker c.serve_containers.result _ _ (λ v served. all-apart 15 c.args.every Laned c.args.containers.items v.items served none) c.serve_containers.ensures
