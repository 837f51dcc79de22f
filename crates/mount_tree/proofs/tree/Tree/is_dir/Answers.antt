use Rattle.std.proofs.lemmas.List.{length-reverse}
use Rattle.mount_tree.proofs.tree.Tree.is_dir.Goals as goal

pub returns-in-Dir-clause-made : goal.returns-in-Dir-clause-made
returns-in-Dir-clause-made c e = rw (← c.self.view_is, ← c.rows.ensures, length-reverse) c.in-Some.ensures.below
