-- One turn holds the next name.
use Rattle.std.proofs.Common.{◌||◌, bytes_eq, ap, ◌∙◌}
use Rattle.policy_reader.proofs.LxdLists.{name_held}
use Rattle.policy_reader.specs.NameSets.{holds}
use Rattle.policy_reader.proofs.lxd_lists.names_of.Goals as goal

pub loop-name-preserved : goal.loop-name-preserved
loop-name-preserved c =
    name_held c.loop-name.names c.add.new.self c.args.allowed.now c.loop-name.name-index c.name-item.result c.name-item.result c.loop-name-test.true c.name-item.is c.loop-name.invariant
    (λ q. c.in_ok-add.ensures q ∙ ap (λ name. bytes_eq name q || holds c.loop-name.names q) c.items.ensures)
