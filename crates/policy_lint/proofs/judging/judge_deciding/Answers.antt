-- By what the classes say of a rule that decides some call.
use Rattle.std.proofs.Common.{◌≡◌, true, length, Some, refl, rules}
use Rattle.std.specs.Prelude.{slice_get}
use Rattle.std.proofs.lemmas.Option.{slice_get_read}
use Rattle.policy_lint.specs.Looked.{partners}
use Rattle.policy_lint.proofs.RuleClasses.{needless, next, some_next}
use Rattle.policy_lint.proofs.judging.judge_deciding.Goals as goal

pub returns : goal.returns
returns c =
    let rule = c.index-rules-place.result in
    let got : slice_get c.args.rules.now c.args.place ≡ Some rule =
    slice_get_read c.args.rules.now (length c.args.rules.now) c.args.place rule refl c.requires.place c.index-rules-place.is in
    let whole : c.in_ok-found.found.whole ≡ true = search rules in
    let by : c.in_ok-by.by ≡ partners c.args.place c.in_ok-found.found.classes = rw c.items-2.ensures at c.in_ok-by.ensures in
    let found = rw c.behind-rest.ensures at c.in_ok-found.ensures in
    let alike = rw (c.items.ensures, c.behind-rest.ensures) at (c.are_all_alike.ensures.yes (search rules)) in
    rw by (
      needless c.args.rules.now c.in_ok-found.found c.args.place rule got found whole alike,
      next c.args.rules.now c.in_ok-found.found c.args.place found whole,
      some_next c.args.rules.now c.in_ok-found.found c.args.place found whole c.requires.decides,
    )
