use Rattle.std.proofs.Common.{sym, ap, ◌∙◌, arith, rules, map-id}
use Rattle.std.proofs.lemmas.Iterator.Adapters.{YieldsList-from_vec}
use Rattle.std.proofs.lemmas.Iterator.Consumers.{YieldsList-end, YieldsList-so_far, YieldsList-turn}
use Rattle.explorer.specs.Tallies.{added}
use Rattle.explorer.proofs.Counts.{fits}
use Rattle.explorer.proofs.Merging.{merged_more, merged_none}
use Rattle.explorer.proofs.found.add_all.Goals as goal

pub loop-outcome-init : goal.loop-outcome-init
loop-outcome-init c = sym (merged_none c.args.outcomes.now.items)

pub add-requires : goal.add-requires
add-requires c =
    let road = YieldsList-from_vec {s = c.into_iter-outcome-iterator.result} c.args.more.items (search rules) (search rules) in
    let part = YieldsList-so_far road c.loop-outcome.yielded c.loop-outcome.outcome-iterator c.loop-outcome.yielded_by in
    let turn = YieldsList-turn road c.loop-outcome.yielded c.loop-outcome.outcome-iterator c.loop-outcome.yielded_by c.next.result c.next.new.self c.in-Some.outcome c.in-Some.is c.next.ensures.steps in
    let room = fits c.args.outcomes.now.items c.loop-outcome.yielded c.args.more.items c.in-Some.outcome (rw map-id at part) turn.0 turn.1 in
    rw c.loop-outcome.invariant (omega (arith, room))

pub loop-outcome-preserved : goal.loop-outcome-preserved
loop-outcome-preserved c = c.in_ok-add.ensures ∙ (ap (added c.in-Some.outcome) c.loop-outcome.invariant ∙ sym (merged_more c.args.outcomes.now.items c.loop-outcome.yielded c.in-Some.outcome))

pub returns : goal.returns
returns c =
    let end = YieldsList-end (YieldsList-from_vec {s = c.into_iter-outcome-iterator.result} c.args.more.items (search rules) (search rules))
    c.loop-outcome.yielded c.loop-outcome.outcome-iterator c.loop-outcome.yielded_by c.next.result c.next.new.self c.in-None.is c.next.ensures.steps in
    rw (← end.0, map-id) c.loop-outcome.invariant
