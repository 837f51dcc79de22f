-- What is known so far of each byte, with what the reads tell that are left, is what all tell.
use Rattle.std.proofs.Common.{◌≡◌, ℕ, ◌<◌, length}
use Rattle.hist_model.specs.Copies.{further}
use Rattle.broker_judge.specs.Copied.{seen_at}
use Rattle.broker_judge.proofs.Laid.{laid}
use Rattle.broker_judge.proofs.copies.lay_all.Given as goal

abbrev pub invariant-loop-read : goal.invariant-loop-read
invariant-loop-read l = record {
  size : length l.seen ≡ length l.fn.seen;
  told : (i : ℕ) → i < length l.fn.seen → laid l.least l.rest (further l.addr i) (seen_at l.seen i) ≡ laid l.least l.reads (further l.addr i) (seen_at l.fn.seen i);
}

abbrev pub decreases-loop-read : goal.decreases-loop-read
decreases-loop-read l = length l.rest
