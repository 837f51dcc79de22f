-- The type's reason stands behind those of the flags.
use Rattle.std.proofs.Common.{append_assoc}
use Rattle.policy_eval.proofs.reasons.push_mount_reasons.Goals as goal

pub returns : goal.returns
returns c = rw (c.in_ok-push_flag_reasons.ensures, c.in_ok-mount.ensures.items, c.new.ensures.items, append_assoc) at c.push_reason.ensures
