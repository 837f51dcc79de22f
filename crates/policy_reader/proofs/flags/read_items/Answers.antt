-- One turn reads the next item.
use Rattle.std.proofs.Common.{◌≡◌, ◌++◌, ◌∷◌, [], Ok, rules, length, get_or, sym, ◌∙◌}
use Rattle.policy_reader.proofs.Items.{one_read}
use Rattle.policy_reader.specs.Flags.{listed_flag}
use Rattle.serde_json.specs.View.{view}
use Rattle.policy_reader.proofs.flags.read_items.Goals as goal

pub loop-item-preserved : goal.loop-item-preserved
loop-item-preserved c =
    let list = listed_flag c.args.rule c.args.list.now in
    let count : c.len.result ≡ length c.loop-item.found.items = search rules in
    let read : listed_flag c.args.rule c.args.list.now c.loop-item.found.items (view (get_or c.args.items.now c.loop-item.item-index c.item-item.result)) ≡ Ok c.in_ok-flag.flag = rw (← c.item-item.is, ← c.flag_of.ensures, ← count) c.in_ok-flag.ensures in
    let pushed : c.push.new.self.items ≡ c.loop-item.found.items ++ c.in_ok-flag.flag ∷ [] = search rules in
    rw pushed (sym (one_read list c.loop-item.found.items c.args.items.now c.loop-item.item-index c.item-item.result c.in_ok-flag.flag c.loop-item-test.true read) ∙ c.loop-item.invariant)
