use Rattle.std.proofs.Common.{◌≡◌, drop}
use Rattle.hist_model.specs.Legal.{started}
use Rattle.explorer.specs.Frames.{AreTurns, after}
use Rattle.explorer.specs.Runs.{IsRun, story}
use Rattle.explorer.proofs.walk.replay.Given as goal

abbrev pub invariant-loop-frame : goal.invariant-loop-frame
invariant-loop-frame l = record {
  at : IsRun l.policy l.fn.script (story l.run) l.run;
  turns : AreTurns l.policy l.fn.script l.workers (story l.run) (drop l.frame-index l.frames);
  to : after l.policy l.fn.script (story l.run) (drop l.frame-index l.frames) ≡ after l.policy l.fn.script (started l.fn.script) l.frames;
}
