-- One turn reads the next item.
use Rattle.std.proofs.Common.{◌≡◌, ◌++◌, ◌∷◌, [], Ok, false, rules, length, get_or, sym, ◌∙◌, ◌==◌}
use Rattle.policy_reader.proofs.Items.{calls_begin, one_read}
use Rattle.policy_reader.specs.Rules.{listed_call}
use Rattle.serde_json.specs.View.{view}
use Rattle.policy_reader.proofs.rules.read_listed_calls.Goals as goal

pub loop-item-init : goal.loop-item-init
loop-item-init c =
    let some : (length c.args.items.now == 0) ≡ false = sym c.is_empty.ensures ∙ c.if-is_empty.false in
    rw c.new-found.ensures.items (sym (calls_begin c.args.rule c.args.items.now some))

pub loop-item-preserved : goal.loop-item-preserved
loop-item-preserved c =
    let count : c.len.result ≡ length c.loop-item.found.items = search rules in
    let read : listed_call c.args.rule c.loop-item.found.items (view (get_or c.args.items.now c.loop-item.item-index c.item-item.result)) ≡ Ok c.in_ok-nr.nr = rw (← c.item-item.is, ← c.call_of.ensures, ← count) c.in_ok-nr.ensures in
    let pushed : c.push.new.self.items ≡ c.loop-item.found.items ++ c.in_ok-nr.nr ∷ [] = search rules in
    rw pushed (sym (one_read (listed_call c.args.rule) c.loop-item.found.items c.args.items.now c.loop-item.item-index c.item-item.result c.in_ok-nr.nr c.loop-item-test.true read) ∙ c.loop-item.invariant)
