-- The findings of the policy that was read, and their lines.
use Rattle.policy_lint.specs.Found.{AreOf}
use Rattle.policy_reader.specs.Policies.{policy}
use Rattle.policy_lint.proofs.lint_read.Goals as goal

pub returns : goal.returns
returns c =
    let of : AreOf (policy c.args.bytes.now) c.in_ok-findings.findings.items = rw c.requires c.in_ok-findings.ensures in
    let told = rw c.as_slice.ensures.value at c.in_ok-told.ensures in
    (c.in_ok-findings.findings.items, of, (rw c.requires told.0, told.1))
