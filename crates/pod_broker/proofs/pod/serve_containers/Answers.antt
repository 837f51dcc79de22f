use Rattle.std.proofs.Common.{◌∙◌, All, List, sym, subst}
use Rattle.std.proofs.lemmas.Result.{IfOk-weaker}
use Rattle.std.specs.List.{AllZip}
use Rattle.crew.specs.Duties.{Takes}
use Rattle.hist_model.specs.declared.history.Setup.{Setup}
use Rattle.pod_broker.proofs.Ended.{all-closed-so, limited, taken}
use Rattle.pod_broker.specs.Serving.{IsClosedAs, IsLimited}
use Rattle.pod_broker.proofs.pod.serve_containers.Goals as goal

pub serve-requires-clause-may : goal.serve-requires-clause-may
serve-requires-clause-may g c κs within = subst (All (Takes c.args.crew.now)) (sym c.in_ok-states.ensures) (taken c.args.workers c.args.every c.args.crew.now c.args.containers.items c.requires.may.1)

pub close_all-requires-clause-limited : goal.close_all-requires-clause-limited
close_all-requires-clause-limited g c =
    subst (All IsLimited) (sym (c.in_ok-ended.ensures.setups ∙ c.in_ok-states.ensures)) (limited c.args.workers c.args.every g.S.Contained.keeps c.args.containers.items)

pub returns : goal.returns
returns g c =
    IfOk-weaker c.close_all.result _ _
    (λ v closed.
    all-closed-so c.args.workers c.args.every g.S.Contained.keeps c.args.containers.items v.items
    (subst (λ (made : List Setup). AllZip (IsClosedAs g.S.Contained.keeps) made v.items) (c.in_ok-ended.ensures.setups ∙ c.in_ok-states.ensures) closed))
    c.close_all.ensures
