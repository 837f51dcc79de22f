use Rattle.mount_tree.proofs.Attributes.{attr_found}
use Rattle.mount_tree.proofs.tree.Tree.has_attr.Goals as goal

pub returns : goal.returns
returns c =
    let found = attr_found c.self.inside.attrs.rows c.args.n.ordinal c.args.name.now in
    rw (← c.self.view_is, c.is_some.ensures, c.attr.ensures.attr) found
