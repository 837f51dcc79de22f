-- One turn reads the next rule, and holds its name.
use Rattle.std.proofs.Common.{◌≡◌, ◌||◌, ℕ, List, Ok, bytes_eq, length, get_or, rules, sym, ◌∙◌, ap}
use Rattle.policy_reader.proofs.Items.{one_more_held, one_read, rule_by_names, rules_begin, too_many_rules}
use Rattle.policy_reader.specs.NameSets.{holds}
use Rattle.policy_reader.specs.Rules.{rule_at, rule_of}
use Rattle.serde_json.specs.View.{view}
use Rattle.policy_reader.proofs.rules.read_listed_rules.Goals as goal

pub returns-then-items-gt-RULES_MAX : goal.returns-then-items-gt-RULES_MAX
returns-then-items-gt-RULES_MAX c = too_many_rules c.args.format c.args.items.now c.if-items-gt-RULES_MAX.true

pub loop-item-init : goal.loop-item-init
loop-item-init c = rw c.new-rules.ensures.items (record { whole = sym (rules_begin c.args.format c.args.items.now c.if-items-gt-RULES_MAX.false); held = c.new-names.ensures })

pub loop-item-preserved : goal.loop-item-preserved
loop-item-preserved c =
    let item = c.item-item.result in
    let earlier = c.loop-item.rules.items in
    let count : c.len.result ≡ length earlier = search rules in
    let at : rule_at c.args.format (length earlier) (holds c.loop-item.names) (view item) ≡ Ok c.in_ok-rule.rule = rw (← count) c.in_ok-rule.ensures in
    let read : rule_of c.args.format earlier (view (get_or c.args.items.now c.loop-item.item-index item)) ≡ Ok c.in_ok-rule.rule = rw (← c.item-item.is) (sym (rule_by_names c.args.format c.loop-item.names earlier (view item) c.loop-item.invariant.held) ∙ at) in
    let more : (q : List ℕ) → holds c.add.new.self q ≡ (bytes_eq c.in_ok-rule.rule.name q || holds c.loop-item.names q) = λ q. c.in_ok-add.ensures q ∙ ap (λ name. bytes_eq name q || holds c.loop-item.names q) c.items.ensures in
    rw c.in_ok-push.ensures.items (record {
      whole = sym (one_read (rule_of c.args.format) earlier c.args.items.now c.loop-item.item-index item c.in_ok-rule.rule c.loop-item-test.true read) ∙ c.loop-item.invariant.whole;
      held = one_more_held (λ rule. rule.name) c.loop-item.names c.add.new.self earlier c.in_ok-rule.rule c.loop-item.invariant.held more;
    })
