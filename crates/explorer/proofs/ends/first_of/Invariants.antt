use Rattle.std.proofs.Common.{◌<◌, length}
use Rattle.explorer.proofs.EndsSorted.{IsFirstSoFar}
use Rattle.explorer.proofs.ends.first_of.Given as goal

abbrev pub invariant-loop-place : goal.invariant-loop-place
invariant-loop-place l = record {
  inside : l.first < length l.ends;
  so_far : IsFirstSoFar l.ends l.first l.place;
}
