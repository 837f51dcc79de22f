-- Each rule by which LXD passes calls is in the table of causes.
-- By computing.
use Rattle.std.proofs.Common.{refl}
use Rattle.policy_explain.specs.Laws.{EachReasonHasItsCause}

pub each_reason_has_its_cause : EachReasonHasItsCause
each_reason_has_its_cause = refl
