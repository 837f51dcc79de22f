use Rattle.mount_tree.proofs.WrittenParts.{tree_ends}
use Rattle.mount_tree.proofs.laws.keys_tell_trees.Goals as goal

pub returns : goal.returns
returns c = tree_ends
