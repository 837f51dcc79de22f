-- What is still to be looked at: a request of which some fields have values, with what is left of the rules of both policies.
use Rattle.std.specs.Prelude.{List, map}
use Rattle.policy_classes.specs.declared.frames.Frame.{Frame}
use Rattle.policy_classes.specs.Looked.{Looked}
use Rattle.policy_classes.specs.Pending.{rules_seen}

-- a frame with the atoms that its rules refer to
abbrev pub frame_seen : Frame → Looked
frame_seen frame = record { request = frame.request; old = rules_seen frame.old.items; new = rules_seen frame.new.items }

abbrev pub frames_seen : List Frame → List Looked
frames_seen frames = map frame_seen frames
