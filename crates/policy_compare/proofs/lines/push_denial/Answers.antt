-- The error stands behind its word.
use Rattle.std.proofs.Common.{append_assoc}
use Rattle.policy_compare.proofs.lines.push_denial.Goals as goal

pub returns : goal.returns
returns c = rw (c.in_ok-push.ensures, append_assoc) at c.push_errno.ensures
