-- The calls so far go on with the items that are left.
use Rattle.std.proofs.Common.{◌≡◌, drop}
use Rattle.policy_reader.specs.Readings.{walk_items}
use Rattle.policy_reader.specs.Rules.{listed_call, listed_calls}
use Rattle.serde_json.specs.View.{items_view}
use Rattle.policy_reader.proofs.rules.read_listed_calls.Given as goal

abbrev pub invariant-loop-item : goal.invariant-loop-item
invariant-loop-item l = walk_items (listed_call l.rule) l.found.items (items_view (drop l.item-index l.items)) ≡ listed_calls l.rule (items_view l.items)
