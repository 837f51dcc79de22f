use Rattle.std.proofs.Common.{subst}
use Rattle.hist_model.specs.declared.script.Script.{Script}
use Rattle.pod_broker.proofs.Ranges.{gives_in_range}
use Rattle.pod_broker.specs.Pods.{GivesInRange}
use Rattle.pod_broker.proofs.containers.keeps_range.Goals as goal

pub returns : goal.returns
returns c =
    let P = c.args.policy.now in
    subst (λ (S : Script). GivesInRange P S) c.script.view_is (gives_in_range P _ c.script.invariant)
