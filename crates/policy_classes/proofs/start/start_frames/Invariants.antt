-- There is a frame for each call so far.
use Rattle.std.proofs.Common.{◌≡◌, map, take}
use Rattle.policy_classes.specs.Frames.{frames_seen}
use Rattle.policy_classes.specs.Looked.{start_frame}
use Rattle.policy_classes.specs.Plain.{standing_calls}
use Rattle.policy_classes.proofs.start.start_frames.Given as goal

abbrev pub invariant-loop-nr : goal.invariant-loop-nr
invariant-loop-nr l = frames_seen l.frames.items ≡ map (start_frame l.old l.new) (take l.nr-index standing_calls)
