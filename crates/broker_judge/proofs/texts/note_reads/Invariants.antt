-- The best so far of each byte, with the reads that are left, is the best of all.
use Rattle.std.proofs.Common.{◌≡◌, ℕ, ◌<◌, length, get_or}
use Rattle.hist_model.specs.Copies.{further}
use Rattle.broker_judge.proofs.Best.{best_of}
use Rattle.broker_judge.proofs.texts.note_reads.Given as goal

abbrev pub invariant-loop-read : goal.invariant-loop-read
invariant-loop-read l = record {
  size : length l.best ≡ length l.fn.best;
  best : (i : ℕ) → i < length l.fn.best
      → best_of l.rest (further l.addr i) (get_or l.wanted i 0) (get_or l.best i 0) ≡ best_of l.reads (further l.addr i) (get_or l.wanted i 0) (get_or l.fn.best i 0);
}

abbrev pub decreases-loop-read : goal.decreases-loop-read
decreases-loop-read l = length l.rest
