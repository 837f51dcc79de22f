use Rattle.std.proofs.Common.{◌≡◌, ℕ}
use Rattle.explorer.specs.Levels.{HasComeTo}
use Rattle.explorer.proofs.by_states.explore_by_states.Given as goal

abbrev pub invariant-levels : goal.invariant-levels
invariant-levels l = record {
  script : l.script ≡ l.fn.script;
  come : (n : ℕ) × HasComeTo l.fn.policy l.fn.script l.workers l.bound n l.ends l.states.items;
}

abbrev pub decreases-levels : goal.decreases-levels
decreases-levels l = l.room
