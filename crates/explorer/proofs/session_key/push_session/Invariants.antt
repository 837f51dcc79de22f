use Rattle.std.proofs.Common.{◌≤◌, length}
use Rattle.explorer.proofs.SessionParts.{IsWritten}
use Rattle.explorer.proofs.session_key.push_session.Given as goal

abbrev pub invariant-steps : goal.invariant-steps
invariant-steps l = record {
  within : l.left ≤ length l.events;
  written : IsWritten l.events l.worker l.left l.fn.key.items l.key.items;
}

abbrev pub decreases-steps : goal.decreases-steps
decreases-steps l = l.left
