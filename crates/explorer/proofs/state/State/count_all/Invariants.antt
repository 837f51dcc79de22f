use Rattle.std.proofs.Common.{◌≡◌, take}
use Rattle.explorer.specs.Joining.{CountsMore}
use Rattle.explorer.proofs.state.State.count_all.Given as goal

abbrev pub invariant-loop-before : goal.invariant-loop-before
invariant-loop-before l = record {
  counts : CountsMore l.bound l.delays (take l.before l.from.counts.items) l.fn.self.counts.items l.self.counts.items;
  frames : l.self.frames ≡ l.fn.self.frames;
  left : l.self.left ≡ l.fn.self.left;
  least : l.self.least ≡ l.fn.self.least;
}
