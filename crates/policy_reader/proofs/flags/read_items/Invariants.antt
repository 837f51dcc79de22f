-- The flags so far go on with the items that are left.
use Rattle.std.proofs.Common.{◌≡◌, [], drop}
use Rattle.policy_reader.specs.Flags.{listed_flag}
use Rattle.policy_reader.specs.Readings.{walk_items}
use Rattle.serde_json.specs.View.{items_view}
use Rattle.policy_reader.proofs.flags.read_items.Given as goal

abbrev pub invariant-loop-item : goal.invariant-loop-item
invariant-loop-item l = walk_items (listed_flag l.rule l.list) l.found.items (items_view (drop l.item-index l.items)) ≡ walk_items (listed_flag l.rule l.list) [] (items_view l.items)
