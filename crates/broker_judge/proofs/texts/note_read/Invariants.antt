-- The places before this one are noted, and the others are as they were.
use Rattle.std.proofs.Common.{◌≡◌, ℕ, ◌<◌, ◌≤◌, length, get_or}
use Rattle.hist_model.specs.Copies.{further}
use Rattle.broker_judge.specs.Texts.{better}
use Rattle.broker_judge.proofs.texts.note_read.Given as goal

abbrev pub invariant-loop-place : goal.invariant-loop-place
invariant-loop-place l = record {
  size : length l.best ≡ length l.initial.best;
  noted : (i : ℕ) → i < l.place → i < length l.best → get_or l.best i 0 ≡ better l.read (further l.addr i) (get_or l.wanted i 0) (get_or l.initial.best i 0);
  left : (i : ℕ) → l.place ≤ i → get_or l.best i 0 ≡ get_or l.initial.best i 0;
}
