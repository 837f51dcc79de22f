use Rattle.run_words.proofs.Runs.{as-many, of-alone}
use Rattle.run_words.specs.Pods.{IsEnded}
use Rattle.run_words.specs.Runs.{by_servers}
use Rattle.run_words.proofs.serving.run_container.Goals as goal

pub only-requires : goal.only-requires
only-requires g c = as-many (IsEnded (by_servers c.args.workers) c.args.every) _ c.in_ok-containers.containers.items c.in_ok-served.served.items c.in_ok-served.ensures.ended c.in_ok-containers.ensures

pub returns-clause-ended : goal.returns-clause-ended
returns-clause-ended g c =
    (of-alone (IsEnded (by_servers c.args.workers) c.args.every) _ c.only.result c.in_ok-containers.containers.items c.in_ok-served.served.items c.in_ok-served.ensures.ended c.in_ok-containers.ensures c.only.ensures).ended

pub returns-clause-policy : goal.returns-clause-policy
returns-clause-policy g c =
    (of-alone (IsEnded (by_servers c.args.workers) c.args.every) _ c.only.result c.in_ok-containers.containers.items c.in_ok-served.served.items c.in_ok-served.ensures.ended c.in_ok-containers.ensures c.only.ensures).policy

pub returns-clause-script : goal.returns-clause-script
returns-clause-script g c =
    (of-alone (IsEnded (by_servers c.args.workers) c.args.every) _ c.only.result c.in_ok-containers.containers.items c.in_ok-served.served.items c.in_ok-served.ensures.ended c.in_ok-containers.ensures c.only.ensures).script

pub returns-clause-handed : goal.returns-clause-handed
returns-clause-handed g c =
    (of-alone (IsEnded (by_servers c.args.workers) c.args.every) _ c.only.result c.in_ok-containers.containers.items c.in_ok-served.served.items c.in_ok-served.ensures.ended c.in_ok-containers.ensures c.only.ensures).kept
