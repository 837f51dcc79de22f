-- By what the classes of the rule alone say.
use Rattle.std.proofs.Common.{◌≡◌, ◌≢◌, ◌+◌, ◌-◌, true, length, take, drop, sym, ◌∙◌, subst, arith, rules}
use Rattle.policy_lint.specs.Judged.{alone}
use Rattle.policy_lint.specs.Looked.{AreClasses, partners}
use Rattle.policy_lint.proofs.RuleClasses.{empty_list, filled_list, never, takers}
use Rattle.policy_lint.proofs.judging.judge_shadowed.Goals as goal

pub returns-then-is_empty : goal.returns-then-is_empty
returns-then-is_empty c =
    let one : c.args.place + 1 - c.args.place ≡ 1 = omega arith in
    let found : AreClasses (alone c.args.rules.now c.args.place) c.args.rules.now c.in_ok-found.found =
    subst (λ n. AreClasses (take n (drop c.args.place c.args.rules.now)) c.args.rules.now c.in_ok-found.found) one c.in_ok-found.ensures in
    let whole : c.in_ok-found.found.whole ≡ true = search rules in
    let by : c.in_ok-by.by ≡ partners 0 c.in_ok-found.found.classes = rw c.items.ensures at c.in_ok-by.ensures in
    let none : length c.items-2.result.now ≡ 0 = search rules in
    never c.args.rules.now c.in_ok-found.found c.args.place found whole
    (sym by ∙ (sym c.items-2.ensures ∙ empty_list c.items-2.result.now none))

pub returns : goal.returns
returns c =
    let one : c.args.place + 1 - c.args.place ≡ 1 = omega arith in
    let found : AreClasses (alone c.args.rules.now c.args.place) c.args.rules.now c.in_ok-found.found =
    subst (λ n. AreClasses (take n (drop c.args.place c.args.rules.now)) c.args.rules.now c.in_ok-found.found) one c.in_ok-found.ensures in
    let whole : c.in_ok-found.found.whole ≡ true = search rules in
    let by : c.in_ok-by.by ≡ partners 0 c.in_ok-found.found.classes = rw c.items.ensures at c.in_ok-by.ensures in
    let some : length c.items-2.result.now ≢ 0 = search rules in (
      c.requires.shadowed,
      rw by (takers c.args.rules.now c.in_ok-found.found c.args.place found whole),
      filled_list c.in_ok-by.by (rw (← c.items-2.ensures) some),
    )
