use Rattle.std.proofs.lemmas.Result.{IfOk-weaker}
use Rattle.pod_broker.specs.Serving.{Any}
use Rattle.pod_broker.proofs.Ended.{all-apart}
use Rattle.pod_broker.proofs.pod.serve_pod.Goals as goal

pub returns-clause-apart : goal.returns-clause-apart
returns-clause-apart g c = λ none.
    IfOk-weaker c.serve_containers.result _ _ (λ v served. all-apart c.args.workers c.args.every Any c.args.containers.items v.items served none) c.serve_containers.ensures
