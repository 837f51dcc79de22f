-- The lists that are left have one that is granted exactly where all have.
use Rattle.std.proofs.Common.{◌≡◌, ℕ, List, length}
use Rattle.std.specs.List.{list_any}
use Rattle.broker_judge.specs.Called.{IsCalled}
use Rattle.broker_verdict.specs.Choices.{decided}
use Rattle.broker_verdict.specs.Effects.{grants_just}
use Rattle.hist_model.specs.declared.event.Event.{Event}
use Rattle.judge_pass.proofs.effects.is_granted_for_some.Given as goal

abbrev pub invariant-loop-texts : goal.invariant-loop-texts
invariant-loop-texts l = (K : List Event) (c : ℕ) → IsCalled K c l.call.called
    → list_any (λ texts. grants_just l.policy l.script K c l.what texts (decided l.policy K c texts)) l.rest
    ≡ list_any (λ texts. grants_just l.policy l.script K c l.what texts (decided l.policy K c texts)) l.all

abbrev pub decreases-loop-texts : goal.decreases-loop-texts
decreases-loop-texts l = length l.rest
