-- The rules so far go on with the items that are left, and their names are held.
use Rattle.std.proofs.Common.{◌≡◌, drop}
use Rattle.policy_reader.specs.NameSets.{HoldsNames}
use Rattle.policy_reader.specs.Readings.{walk_items}
use Rattle.policy_reader.specs.Rules.{rule_of, rules_in}
use Rattle.serde_json.specs.View.{items_view}
use Rattle.policy_reader.proofs.rules.read_listed_rules.Given as goal

abbrev pub invariant-loop-item : goal.invariant-loop-item
invariant-loop-item l = record {
  whole : walk_items (rule_of l.format) l.rules.items (items_view (drop l.item-index l.items)) ≡ rules_in l.format (items_view l.items);
  held : HoldsNames (λ rule. rule.name) l.names l.rules.items;
}
