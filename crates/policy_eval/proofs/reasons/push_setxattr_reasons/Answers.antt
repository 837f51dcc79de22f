-- Both reasons stand one behind the other.
use Rattle.std.proofs.Common.{append_assoc}
use Rattle.policy_eval.proofs.reasons.push_setxattr_reasons.Goals as goal

pub returns : goal.returns
returns c = rw (c.in_ok-push_reason.ensures, c.in_ok-marks.ensures, c.in_ok-of_marks.ensures.items, c.in_ok-of_others.ensures.items, c.new.ensures.items, append_assoc) at c.push_reason-2.ensures
