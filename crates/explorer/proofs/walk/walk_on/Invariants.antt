use Rattle.std.proofs.Common.{◌≡◌, ◌-◌, ◌^◌, length}
use Rattle.explorer.specs.Frames.{left_from}
use Rattle.explorer.specs.Runs.{script_in, story}
use Rattle.explorer.specs.Walking.{HasCome}
use Rattle.explorer.proofs.walk.walk_on.Given as goal

abbrev pub invariant-turns : goal.invariant-turns
invariant-turns l = record {
  come : HasCome l.fn.policy (script_in l.fn.run) l.workers l.frames.items l.run;
  rest : left_from l.fn.policy (script_in l.fn.run) l.workers l.fn.frames.items l.left ≡ left_from l.fn.policy (script_in l.fn.run) l.workers l.frames.items l.left;
}

abbrev pub decreases-turns : goal.decreases-turns
decreases-turns l = 2 ^ 62 - length (story l.run)
