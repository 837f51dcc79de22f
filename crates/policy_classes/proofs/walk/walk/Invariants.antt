-- Each class is right, and each call has a class or is reached from a frame; the frames that are left add up with those that were looked at.
use Rattle.std.proofs.Common.{length}
use Rattle.policy_classes.specs.Frames.{frames_seen}
use Rattle.policy_classes.specs.Looked.{places_looked}
use Rattle.policy_classes.specs.Plain.{all_atoms}
use Rattle.policy_classes.proofs.Walked.{Counts, Walks}
use Rattle.policy_classes.proofs.walk.walk.Given as goal

abbrev pub invariant-loop-frame : goal.invariant-loop-frame
invariant-loop-frame l =
    Walks l.old l.new l.classes.items (frames_seen l.frames.items)
    × Counts (places_looked l.old l.new) (length (all_atoms l.old l.new)) l.bound l.left (frames_seen l.frames.items)

abbrev pub decreases-loop-frame : goal.decreases-loop-frame
decreases-loop-frame l = l.left
