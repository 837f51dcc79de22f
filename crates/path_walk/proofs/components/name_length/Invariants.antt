use Rattle.std.proofs.Common.{◌≡◌, ◌+◌, drop}
use Rattle.path_walk.specs.Components.{name_length}
use Rattle.path_walk.proofs.components.name_length.Given as goal

abbrev pub invariant-loop-i : goal.invariant-loop-i
invariant-loop-i l = l.i + name_length (drop l.i l.path) ≡ name_length l.path
