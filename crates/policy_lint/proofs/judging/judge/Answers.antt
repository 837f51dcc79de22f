-- By the rule's class among those of all calls, or since it has none.
use Rattle.std.proofs.Common.{◌≡◌, true, Some, None, sym, rules}
use Rattle.std.specs.Prelude.{find}
use Rattle.policy_lint.proofs.Partners.{is_at}
use Rattle.policy_lint.proofs.RuleClasses.{decides, shadowed}
use Rattle.policy_lint.proofs.judging.judge.Goals as goal

pub returns-then-is_useful_for : goal.returns-then-is_useful_for
returns-then-is_useful_for c =
    let found : find (is_at c.args.place) c.args.all.now.classes ≡ Some c.in-Some.class.now = sym (rw c.items.ensures at c.in-Some.ensures) in (
      c.in-Some.class.now.witness,
      decides c.args.rules.now c.args.all.now c.args.place c.in-Some.class.now c.requires.all found,
      c.is_useful_for.ensures (search rules),
    )

pub judge_deciding-requires-clause-decides : goal.judge_deciding-requires-clause-decides
judge_deciding-requires-clause-decides c =
    let found : find (is_at c.args.place) c.args.all.now.classes ≡ Some c.in-Some.class.now = sym (rw c.items.ensures at c.in-Some.ensures) in
    (c.in-Some.class.now.witness, decides c.args.rules.now c.args.all.now c.args.place c.in-Some.class.now c.requires.all found)

pub judge_shadowed-requires-clause-shadowed : goal.judge_shadowed-requires-clause-shadowed
judge_shadowed-requires-clause-shadowed c =
    let none : find (is_at c.args.place) c.args.all.now.classes ≡ None = sym (rw c.items.ensures at c.in-None.ensures) in
    let whole : c.args.all.now.whole ≡ true = search rules in
    shadowed c.args.rules.now c.args.all.now c.args.place c.requires.all whole none
