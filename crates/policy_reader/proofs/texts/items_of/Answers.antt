-- One turn takes the first item of what is left, where it has bytes.
use Rattle.std.proofs.Common.{◌≡◌, length, rules, tests}
use Rattle.std.specs.Option.{option_copied}
use Rattle.policy_reader.proofs.Cuts.{item_filled, item_empty, one_item}
use Rattle.policy_reader.proofs.texts.items_of.Goals as goal

pub loop-rest-preserved-in_ok-push : goal.loop-rest-preserved-in_ok-push
loop-rest-preserved-in_ok-push c =
    let has : length c.trimmed-item.result.now ≡ 0 → ⊥ = search (rules, tests) in
    let first = item_filled c.in-Some.left.now c.cut_at.result.0.now c.trimmed-item.result.now (option_copied c.cut_at.result.1) c.cut_at.ensures.front c.cut_at.ensures.rest c.trimmed-item.ensures has in
    let before = rw c.in-Some.is at c.loop-rest.invariant in
    rw c.in_ok-push.ensures.items (one_item c.loop-rest.items.items c.trimmed-item.result _ _ _ before first)

pub loop-rest-preserved : goal.loop-rest-preserved
loop-rest-preserved c =
    let none : length c.trimmed-item.result.now ≡ 0 = search (rules, tests) in
    let first = item_empty c.in-Some.left.now c.cut_at.result.0.now c.trimmed-item.result.now (option_copied c.cut_at.result.1) c.cut_at.ensures.front c.cut_at.ensures.rest c.trimmed-item.ensures none in
    let before = rw c.in-Some.is at c.loop-rest.invariant in
    rw first at before
