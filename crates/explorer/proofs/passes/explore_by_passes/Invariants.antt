use Rattle.std.proofs.Common.{◌≡◌}
use Rattle.explorer.specs.Telling.{IsSoFar}
use Rattle.explorer.proofs.passes.explore_by_passes.Given as goal

abbrev pub invariant-loop-delays : goal.invariant-loop-delays
invariant-loop-delays l = record {
  script : l.script ≡ l.fn.script;
  so_far : IsSoFar l.fn.policy l.fn.script l.workers l.delays l.found;
}
