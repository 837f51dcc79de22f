use Rattle.std.proofs.Common.{◌≡◌}
use Rattle.explorer.proofs.LevelTurns.{AreGone}
use Rattle.explorer.proofs.by_states.next_level.Given as goal

abbrev pub invariant-states : goal.invariant-states
invariant-states l = record {
  script : l.script ≡ l.fn.script;
  gone : AreGone l.fn.policy l.fn.script l.workers l.bound l.states l.state-index l.fn.ends l.ends l.next;
}
