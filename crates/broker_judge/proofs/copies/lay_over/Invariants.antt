-- The places before this one are laid over, and the others are as they were.
use Rattle.std.proofs.Common.{◌≡◌, ℕ, ◌<◌, ◌≤◌, length}
use Rattle.hist_model.specs.Copies.{further}
use Rattle.broker_verdict.specs.SeatCopies.{or_seen, told}
use Rattle.broker_judge.specs.Copied.{seen_at}
use Rattle.broker_judge.proofs.copies.lay_over.Given as goal

abbrev pub invariant-loop-place : goal.invariant-loop-place
invariant-loop-place l = record {
  size : length l.seen ≡ length l.initial.seen;
  laid : (i : ℕ) → i < l.place → i < length l.seen → seen_at l.seen i ≡ or_seen (told l.read.addr l.read.len l.read.answer (further l.addr i)) (seen_at l.initial.seen i);
  left : (i : ℕ) → l.place ≤ i → seen_at l.seen i ≡ seen_at l.initial.seen i;
}
