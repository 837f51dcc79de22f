use Rattle.std.proofs.lemmas.Result.{IfOk-weaker}
use Rattle.lane_seats.specs.Lanes.{Laned}
use Rattle.pod_broker.specs.Serving.{Any}
use Rattle.run_words.proofs.Containers.{are-ended}
use Rattle.run_words.specs.Runs.{ByLanes, ByWorkers}
use Rattle.run_words.proofs.serving.serve_containers.Goals as goal

pub returns-in-Some-clause-ended : goal.returns-in-Some-clause-ended
returns-in-Some-clause-ended g c =
    let workers = c.in-Some.workers in
    rw c.in-Some.is
    (IfOk-weaker c.serve_pod.result _ _ (λ v served. are-ended (ByWorkers workers) c.args.every workers Any (λ P S H ended any. ended) c.args.containers.items v.items served) c.serve_pod.ensures.served)

pub returns-in-None-clause-ended : goal.returns-in-None-clause-ended
returns-in-None-clause-ended g c =
    rw c.in-None.is
    (IfOk-weaker c.serve_pod_by_lanes.result _ _ (λ v served. are-ended ByLanes c.args.every 15 Laned (λ P S H ended laned. (ended, laned)) c.args.containers.items v.items served) c.serve_pod_by_lanes.ensures.served)
