-- There is a frame for each request so far.
use Rattle.std.proofs.Common.{◌≡◌, ◌++◌, map}
use Rattle.policy_classes.specs.Frames.{frame_seen, frames_seen}
use Rattle.policy_classes.specs.Looked.{with_choice}
use Rattle.policy_classes.proofs.frames.push_choices.Given as goal

abbrev pub invariant-loop-request : goal.invariant-loop-request
invariant-loop-request l = frames_seen l.frames.items ≡ frames_seen l.fn.frames.items ++ map (with_choice l.field (frame_seen l.frame)) l.yielded
