-- What an explanation rests on.
use Rattle.std.specs.Prelude.{◌≡◌, ◌++◌, true, List, IfSome, is_none, is_some, None, slice_get, take}
use Rattle.std.specs.List.{list_all}
use Rattle.hist_model.specs.Decisions.{decide, fits, mknod_reasons, mount_reasons, setxattr_reasons}
use Rattle.hist_model.specs.declared.policy.Rule.{Rule}
use Rattle.hist_model.specs.declared.request.Request.{Request}
use Rattle.policy_reader.specs.Readings.{named}
use Rattle.policy_explain.specs.Missed.{missed}
use Rattle.policy_explain.specs.Reasons.{causes}

-- nothing is missed exactly where the rule fits
abbrev pub FitsWhereNothingIsMissed : Type 0
FitsWhereNothingIsMissed = (rule : Rule) (q : Request) → is_none (missed rule q) ≡ fits rule q

-- the request misses something of each rule before the one that decides
abbrev pub EachBeforeMisses : Type 0
EachBeforeMisses = (rules : List Rule) (q : Request) → list_all (λ rule. is_some (missed rule q)) (take (decide rules q).0 rules) ≡ true

-- and nothing of that one
abbrev pub DecidingMissesNothing : Type 0
DecidingMissesNothing = (rules : List Rule) (q : Request) → IfSome (slice_get rules (decide rules q).0) (λ rule. missed rule q ≡ None)

-- each rule by which LXD passes calls has its cause
abbrev pub EachReasonHasItsCause : Type 0
EachReasonHasItsCause =
    list_all (λ (rule : Rule). is_some (named causes rule.name)) (mknod_reasons ++ mount_reasons ++ setxattr_reasons) ≡ true
