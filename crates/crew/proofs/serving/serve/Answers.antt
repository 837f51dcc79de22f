use Rattle.std.proofs.Common.{◌∙◌, All, List, map, sym, subst}
use Rattle.std.proofs.lemmas.Result.{IfOk-weaker}
use Rattle.crew.specs.Duties.{Takes}
use Rattle.crew.specs.Locks.{BeginEach, seen_of}
use Rattle.hist_model.specs.declared.event.Event.{Event}
use Rattle.crew.proofs.serving.serve.Goals as goal

pub serve_locked-requires-clause-may : goal.serve_locked-requires-clause-may
serve_locked-requires-clause-may g c κs within = subst (All (Takes c.args.crew.now)) (sym c.in_ok-locks.ensures.setups) c.requires.may

pub returns-clause-setups : goal.returns-clause-setups
returns-clause-setups g c = IfOk-weaker c.close_all.result _ _ (λ v same. same ∙ c.in_ok-locks.ensures.setups) c.close_all.ensures.setups

pub returns-clause-begins : goal.returns-clause-begins
returns-clause-begins g c =
    let before = map (λ s. (g.S.Journalled.history s).events) c.args.states.items in
    let served = map seen_of c.serve_locked.new.firsts.items in
    IfOk-weaker c.close_all.result _ _
    (λ v same. subst (λ (hs : List (List Event)). BeginEach hs before) (sym same) (subst (λ (hs : List (List Event)). BeginEach served hs) c.in_ok-locks.ensures.seen c.serve_locked.ensures.seen))
    c.close_all.ensures.seen
