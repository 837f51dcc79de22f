-- Behind what was reached the reads tell nothing but what those that are left tell.
use Rattle.std.proofs.Common.{◌≡◌, ℕ, ◌<◌, ◌≤◌, length}
use Rattle.hist_model.specs.Copies.{further}
use Rattle.broker_verdict.specs.SeatCopies.{Unread}
use Rattle.broker_judge.proofs.Laid.{laid}
use Rattle.broker_judge.proofs.copies.reach.Given as goal

abbrev pub invariant-loop-read : goal.invariant-loop-read
invariant-loop-read l = record {
  within : l.reached ≤ l.most;
  behind : (i : ℕ) → l.reached ≤ i → i < l.most → laid l.least l.rest (further l.addr i) Unread ≡ laid l.least l.reads (further l.addr i) Unread;
}

abbrev pub decreases-loop-read : goal.decreases-loop-read
decreases-loop-read l = length l.rest
