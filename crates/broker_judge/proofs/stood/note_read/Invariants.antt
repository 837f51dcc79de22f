-- The places before this one are noted, and the others are as they were.
use Rattle.std.proofs.Common.{◌≡◌, ℕ, ◌<◌, ◌≤◌, length, get_or, false}
use Rattle.hist_model.specs.Copies.{further}
use Rattle.broker_judge.specs.Copied.{told_by}
use Rattle.broker_judge.specs.Stood.{given, wrong_in}
use Rattle.broker_judge.proofs.stood.note_read.Given as goal

abbrev pub invariant-loop-place : goal.invariant-loop-place
invariant-loop-place l = record {
  size : length l.right ≡ length l.fn.right;
  wrong : l.wrong ≡ wrong_in l.right;
  noted : (i : ℕ) → i < l.place → i < length l.right → get_or l.right i false ≡ given (told_by l.read (further l.addr i)) (get_or l.wanted i 0) (get_or l.fn.right i false);
  left : (i : ℕ) → l.place ≤ i → get_or l.right i false ≡ get_or l.fn.right i false;
}
