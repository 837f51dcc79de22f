-- Why a call is passed, in words. LXD's reasons are rules that pass, named for the cause.
use Rattle.std.specs.Prelude.{ℕ, nat_eq, if◌then◌else◌, List, [], ◌∷◌, ◌++◌, Option, Some, None, codes}
use Rattle.std.specs.List.{starts_with}
use Rattle.hist_model.specs.declared.policy.Verdict.{Verdict}
use Rattle.hist_model.specs.declared.policy.Verdict.TheVariants.{Pass}
use Rattle.policy_reader.specs.Readings.{named}
use Rattle.policy_explain.specs.declared.reasons.Cause.{Cause}
use Rattle.policy_explain.specs.declared.reasons.Cause.TheVariants as cause

-- the rules by which LXD passes calls, each with its cause
abbrev pub causes : List (List ℕ × Cause)
causes = (codes "lxd.mknod.not-a-known-device", cause.OtherNode) ∷ (codes "lxd.mknodat.directory-descriptor", cause.Descriptor)
    ∷ (codes "lxd.mount.remount", cause.NotNotified) ∷ (codes "lxd.mount.bind", cause.NotNotified)
    ∷ (codes "lxd.mount.move", cause.NotNotified) ∷ (codes "lxd.mount.propagation", cause.MountsNothing)
    ∷ (codes "lxd.mount.type", cause.OtherType) ∷ (codes "lxd.setxattr.value", cause.OtherValue)
    ∷ (codes "lxd.setxattr.name", cause.OtherName) ∷ []

abbrev pub cause_text : Cause → List ℕ
cause_text cause.OtherNode = codes "LXD makes no such node"
cause_text cause.Descriptor = codes "the directory descriptor isn't AT_FDCWD"
cause_text cause.NotNotified = codes "LXD's filter doesn't notify it"
cause_text cause.MountsNothing = codes "mount(2) changes how a mount propagates, and mounts nothing"
cause_text cause.OtherType = codes "the type isn't mounted"
cause_text cause.OtherValue = codes "the value isn't y"
cause_text cause.OtherName = codes "the attribute has another name"

-- a rule that isn't LXD's: one of the defaults, or one of the policy's own
abbrev pub other_reason : List ℕ → List ℕ
other_reason name = if starts_with nat_eq name (codes "default.") then codes "no other rule fits" else codes "the rule says so"

abbrev pub reason_where : Option Cause → List ℕ → List ℕ
reason_where (Some c) name = cause_text c
reason_where None name = other_reason name

-- why a rule of this name passes a call
unfoldable pub reason_of : List ℕ → List ℕ
reason_of name = reason_where (named causes name) name

-- the reason of a rule that passes
abbrev pub pass_text : Verdict → List ℕ → List ℕ
pass_text Pass name = codes " reason=\"" ++ reason_of name ++ codes "\""
pass_text _ name = []
