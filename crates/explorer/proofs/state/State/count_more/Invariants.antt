use Rattle.std.proofs.Common.{◌≡◌, ◌+◌, ◌-◌, ℕ, get_or, length}
use Rattle.explorer.proofs.state.State.count_more.Given as goal

abbrev pub invariant-places : goal.invariant-places
invariant-places l = record {
  same : (i : ℕ) → get_or l.self.counts.items i 0 ≡ get_or l.fn.self.counts.items i 0;
  frames : l.self.frames ≡ l.fn.self.frames;
  left : l.self.left ≡ l.fn.self.left;
  least : l.self.least ≡ l.fn.self.least;
}

abbrev pub decreases-places : goal.decreases-places
decreases-places l = l.place + 1 - length l.self.counts.items
