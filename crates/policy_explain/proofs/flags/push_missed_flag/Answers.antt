-- Whether a flag is set stands behind its name.
use Rattle.std.proofs.Common.{append_assoc}
use Rattle.policy_explain.proofs.flags.push_missed_flag.Goals as goal

pub returns-in_ok-push_flag-in-Some-default : goal.returns-in_ok-push_flag-in-Some-default
returns-in_ok-push_flag-in-Some-default c =
    let told = rw (c.in_ok-push_flag-in-Some-default.ensures, c.in_ok-push-in-Some-default.ensures, c.in_ok-push.ensures) at c.push-in-Some-default-2.ensures in
    rw c.in-Some-default.is-0 (simp append_assoc (simp append_assoc at told))
