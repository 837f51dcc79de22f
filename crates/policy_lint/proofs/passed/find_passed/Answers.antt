-- By the classes of all calls, where it is told of each that has such calls.
use Rattle.std.proofs.Common.{◌≡◌, true, false, List, ap, sym, ◌∙◌, subst, rules}
use Rattle.std.specs.List.{list_all, list_any}
use Rattle.policy_lint.specs.Found.{AreAllTold, is_heeded}
use Rattle.policy_lint.specs.Looked.{AreClasses}
use Rattle.policy_lint.specs.Passed.{of_any_text}
use Rattle.policy_lint.specs.declared.finding.Finding.{Finding}
use Rattle.policy_lint.proofs.Passing.{all_told, nothing_denied}
use Rattle.policy_lint.proofs.Verdicts.{deny}
use Rattle.policy_lint.proofs.passed.find_passed.Goals as goal

pub returns-then-not-has_denial-clause-all : goal.returns-then-not-has_denial-clause-all
returns-then-not-has_denial-clause-all c =
    let none : list_any deny c.args.policy.now.rules ≡ false = search rules in
    subst (λ (found : List Finding). AreAllTold c.args.policy.now.rules found) (sym c.new.ensures.items) (nothing_denied c.args.policy.now.rules none)

pub returns-then-are_heeded-clause-all : goal.returns-then-are_heeded-clause-all
returns-then-are_heeded-clause-all c =
    let all : c.items-rules.result.now ≡ c.args.policy.now.rules = search rules in
    let any : c.as_slice.result.now ≡ of_any_text c.args.policy.now.rules =
    c.as_slice.ensures.value ∙ c.in_ok-any.ensures ∙ ap of_any_text all in
    let classes : AreClasses c.args.policy.now.rules (of_any_text c.args.policy.now.rules) c.in_ok-found.found =
    subst (λ r. AreClasses r (of_any_text c.args.policy.now.rules) c.in_ok-found.found) all
    (subst (λ r. AreClasses c.items-rules.result.now r c.in_ok-found.found) any c.in_ok-found.ensures) in
    let whole : c.in_ok-found.found.whole ≡ true = search rules in
    let tested = c.are_heeded.ensures in
    let passes = c.if-are_heeded.true in
    let left = c.as_slice-then-found.ensures.value ∙ c.in_ok-any.ensures ∙ ap of_any_text all in
    let findings = c.as_slice-then-found-2.ensures.value in
    let items = c.items-classes.ensures in
    let heeded : list_all (is_heeded c.args.policy.now.rules (of_any_text c.args.policy.now.rules) c.in_ok-findings.findings.items) c.in_ok-found.found.classes ≡ true = cc in
    all_told c.args.policy.now.rules c.in_ok-found.found c.in_ok-findings.findings.items classes whole heeded

pub returns-clause-said : goal.returns-clause-said
returns-clause-said c = c.in_ok-push_unsure.ensures.said c.args.policy.now.rules c.in_ok-findings.ensures

pub returns-clause-all : goal.returns-clause-all
returns-clause-all c = c.in_ok-push_unsure.ensures.all c.args.policy.now.rules
