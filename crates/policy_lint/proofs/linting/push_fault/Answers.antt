-- A useful rule adds nothing, and another one its finding.
use Rattle.std.proofs.Common.{◌≡◌, ◌≢◌, rules}
use Rattle.policy_lint.specs.declared.judgement.Judgement.TheVariants.{Useful}
use Rattle.policy_lint.proofs.Faults.{one_fault, one_useful}
use Rattle.policy_lint.proofs.linting.push_fault.Goals as goal

pub returns-then-is_useful : goal.returns-then-is_useful
returns-then-is_useful c =
    let useful : c.args.judgement ≡ Useful = search rules in
    λ all own said before. one_useful all c.args.place c.args.findings.now.items c.args.judgement before said useful

pub returns : goal.returns
returns c =
    let other : c.args.judgement ≢ Useful = search rules in
    λ all own said before. rw c.in_ok-push.ensures.items
    (one_fault all c.args.place c.args.findings.now.items c.args.judgement c.found.result before own said other c.found.ensures)
