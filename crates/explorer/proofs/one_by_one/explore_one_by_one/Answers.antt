use Rattle.std.proofs.lemmas.Result.{IfOk-weaker}
use Rattle.delay_bounded.specs.Explored.{bound_of, explored}
use Rattle.explorer.specs.Telling.{TellsFirst}
use Rattle.explorer.proofs.Bounds.{told_few, told_within}
use Rattle.explorer.proofs.one_by_one.explore_one_by_one.Goals as goal

pub returns-in-Whole : goal.returns-in-Whole
returns-in-Whole c =
    let P = c.args.policy.now in
    let S = c.args.script in
    let W = c.args.workers in
    let told = rw c.in-Whole.is at c.in_ok-tally.ensures in
    told_within P S W c.bound_within-bound.result (bound_of c.args.delays) c.bound_within-bound.ensures c.told.result
    (told_few P S W c.bound_within-bound.result c.in-Whole.tally c.told.result told.0 told.1 c.told.ensures.histories c.told.ensures.events c.told.ensures.longest c.told.ensures.outcomes c.told.ensures.whole)

pub returns-in-TooMany : goal.returns-in-TooMany
returns-in-TooMany c =
    let P = c.args.policy.now in
    let S = c.args.script in
    let W = c.args.workers in
    let back = rw c.in-TooMany.is at c.in_ok-tally.ensures in
    let told = rw back at c.explore_by_passes.ensures in
    IfOk-weaker c.explore_by_passes.result (λ x. TellsFirst P S (explored P S W c.bound_within-bound.result) x) (λ x. TellsFirst P S (explored P S W (bound_of c.args.delays)) x)
    (λ x t. told_within P S W c.bound_within-bound.result (bound_of c.args.delays) c.bound_within-bound.ensures x t) told
