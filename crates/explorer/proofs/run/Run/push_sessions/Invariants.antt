use Rattle.std.proofs.Common.{◌≡◌, ◌++◌}
use Rattle.std.specs.List.{flat_map, range_with_len}
use Rattle.explorer.specs.Keys.{session_part}
use Rattle.explorer.specs.Runs.{story}
use Rattle.explorer.proofs.run.Run.push_sessions.Given as goal

abbrev pub invariant-loop-worker : goal.invariant-loop-worker
invariant-loop-worker l = l.key.items ≡ l.fn.key.items ++ flat_map (session_part (story l.self)) (range_with_len 0 l.worker)
