-- The findings in the order of the text.
use Rattle.std.proofs.Common.{ap, List, subst, ◌++◌, ◌∙◌}
use Rattle.std.specs.List.Sorted.{IsPermutation}
use Rattle.policy_lint.specs.declared.finding.Finding.{Finding}
use Rattle.policy_lint.proofs.Said.{all_in_order}
use Rattle.policy_lint.proofs.linting.in_order.Goals as goal

pub returns : goal.returns
returns c rules f h s t n =
    let a = c.in_ok-append.ensures.items in
    let b = c.in_ok-append-2.ensures.items in
    let d = c.in_ok-append-3.ensures.items in
    let all = d ∙ ap (λ (found : List Finding). found ++ c.args.notes.items) (b ∙ ap (λ (found : List Finding). found ++ c.args.passed.items) a) in
    all_in_order rules c.args.findings.items c.args.hints.items c.args.passed.items c.args.notes.items c.sort_by_key.new.self.items f h s t n
    (subst (λ (found : List Finding). IsPermutation found c.sort_by_key.new.self.items) all c.in_ok-sort_by_key.ensures.permutation)
