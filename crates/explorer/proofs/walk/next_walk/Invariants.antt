use Rattle.std.proofs.Common.{◌≡◌, vec_len}
use Rattle.hist_model.specs.Legal.{started}
use Rattle.explorer.specs.Frames.{AreTurns, behind}
use Rattle.explorer.proofs.walk.next_walk.Given as goal

abbrev pub invariant-frames : goal.invariant-frames
invariant-frames l = record {
  script : l.script ≡ l.fn.script;
  turns : AreTurns l.fn.policy l.fn.script l.workers (started l.fn.script) l.frames.items;
  rest : behind l.fn.policy l.fn.script l.workers l.fn.frames.items ≡ behind l.fn.policy l.fn.script l.workers l.frames.items;
}

abbrev pub decreases-frames : goal.decreases-frames
decreases-frames l = vec_len l.frames
