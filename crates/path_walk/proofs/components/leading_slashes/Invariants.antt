use Rattle.std.proofs.Common.{◌≡◌, ◌+◌, drop}
use Rattle.path_walk.specs.Components.{leading_slashes}
use Rattle.path_walk.proofs.components.leading_slashes.Given as goal

abbrev pub invariant-loop-i : goal.invariant-loop-i
invariant-loop-i l = l.i + leading_slashes (drop l.i l.path) ≡ leading_slashes l.path
