-- One more path leads to a node: the map is changed at that path alone.
use Rattle.std.proofs.Common.{◌≡◌, ◌+◌, rules}
use Rattle.script_reader.proofs.Tables.{tree_led}
use Rattle.script_reader.proofs.tree.StatedTree.lead.Goals as goal

pub returns : goal.returns
returns c =
    let next : c.in_ok-self.field-0 ≡ c.args.self.now.nodes + 1 = search rules in
    tree_led c.args.self.now.paths c.insert.new.self _ _ _ c.args.path.items c.args.directory c.in_ok-insert.ensures.updates next
