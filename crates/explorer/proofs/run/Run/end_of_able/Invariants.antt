use Rattle.std.proofs.Common.{◌≡◌, ◌≤◌, []}
use Rattle.delay_bounded.specs.Circle.{places}
use Rattle.hist_model.specs.declared.policy.Policy.{Policy}
use Rattle.explorer.specs.Runs.{IsGoing, able_in, story}
use Rattle.explorer.proofs.run.Run.end_of_able.Given as goal

abbrev pub invariant-places : goal.invariant-places
invariant-places l = record {
  number : l.places ≡ places l.workers (story l.self);
  within : l.end ≤ l.places;
  none : (P : Policy) → IsGoing P l.self → able_in P l.workers l.self l.last l.end ≡ [];
}

abbrev pub decreases-places : goal.decreases-places
decreases-places l = l.end
