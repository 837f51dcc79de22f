use Rattle.std.proofs.Common.{◌≡◌, ℕ, List, length, take, sum_by}
use Rattle.hist_model.specs.declared.event.Event.{Event}
use Rattle.hist_model.specs.declared.policy.Policy.{Policy}
use Rattle.hist_model.specs.declared.script.Script.{Script}
use Rattle.delay_bounded.specs.Explored.{Walk, walks_of}
use Rattle.explorer.specs.Telling.{TellsBy, TellsOf, with_fewer}
use Rattle.explorer.specs.declared.tally.Tally.{Tally}
use Rattle.explorer.proofs.by_delays.ByDelays.joined.Given as goal

abbrev pub invariant-loop-tally : goal.invariant-loop-tally
invariant-loop-tally l = record {
  told : (P : Policy) (S : Script) (ws : List Walk) → TellsBy P S ws l.fn.self → (L : List (List Event)) × TellsOf P S L l.all;
  tells : (P : Policy) (S : Script) (W : ℕ) → TellsBy P S (walks_of P S W l.fn.self.bound) l.fn.self → TellsOf P S (with_fewer P S W (length l.yielded)) l.all;
  events : l.all.events ≡ sum_by (λ (t : Tally). t.events) (take (length l.yielded) l.fn.self.tallies.items);
}
