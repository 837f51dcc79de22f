use Rattle.std.proofs.Common.{◌≡◌, ◌+◌, ◌-◌}
use Rattle.explorer.proofs.StateTurns.{HasTurns}
use Rattle.explorer.proofs.by_states.go_on.Given as goal

abbrev pub invariant-turns : goal.invariant-turns
invariant-turns l = record {
  script : l.script ≡ l.fn.script;
  ends : l.ends ≡ l.fn.ends;
  had : HasTurns l.fn.policy l.fn.script l.workers l.bound l.state l.delays l.tried l.fn.next l.next;
}

abbrev pub decreases-turns : goal.decreases-turns
decreases-turns l = l.state.left + 1 - l.delays
