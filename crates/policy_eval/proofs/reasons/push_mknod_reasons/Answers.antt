-- Both reasons stand one behind the other.
use Rattle.std.proofs.Common.{append_assoc}
use Rattle.policy_eval.proofs.reasons.push_mknod_reasons.Goals as goal

pub returns : goal.returns
returns c = rw (c.in_ok-push_reason.ensures, c.in_ok-both.ensures.items, c.in_ok-from_root.ensures.items, c.in_ok-mknodat.ensures.items, c.new.ensures.items, append_assoc) at c.push_reason-2.ensures
