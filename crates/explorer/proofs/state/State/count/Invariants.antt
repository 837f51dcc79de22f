use Rattle.std.proofs.Common.{◌≡◌, sum, take}
use Rattle.explorer.proofs.state.State.count.Given as goal

abbrev pub invariant-loop-count : goal.invariant-loop-count
invariant-loop-count l = l.all ≡ sum (take l.count-index l.self.counts.items)
