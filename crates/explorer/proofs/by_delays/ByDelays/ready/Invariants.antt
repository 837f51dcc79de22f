use Rattle.std.proofs.Common.{◌≡◌, ◌+◌, ◌-◌, List, vec_len}
use Rattle.hist_model.specs.declared.policy.Policy.{Policy}
use Rattle.hist_model.specs.declared.script.Script.{Script}
use Rattle.delay_bounded.specs.Explored.{Walk}
use Rattle.explorer.specs.Telling.{TellsBy}
use Rattle.explorer.proofs.by_delays.ByDelays.ready.Given as goal

abbrev pub invariant-places : goal.invariant-places
invariant-places l = record {
  bound_is : l.self.bound ≡ l.fn.self.bound;
  events_are : l.self.events ≡ l.fn.self.events;
  tells : (P : Policy) (S : Script) (ws : List Walk) → TellsBy P S ws l.fn.self → TellsBy P S ws l.self;
}

abbrev pub decreases-places : goal.decreases-places
decreases-places l = l.delays + 1 - vec_len l.self.tallies
