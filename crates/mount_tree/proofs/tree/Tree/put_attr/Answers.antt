use Rattle.std.proofs.Common.{◌≡◌, None, Some}
use Rattle.mount_tree.specs.Places.{attr_place}
use Rattle.mount_tree.proofs.Attributes.{attr_absent}
use Rattle.mount_tree.proofs.tree.Tree.put_attr.Goals as goal

pub add_attr-requires : goal.add_attr-requires
add_attr-requires c =
    let e : attr_place c.self.inside.attrs.rows c.args.on c.args.name.now ≡ None = cc in
    rw (← c.self.view_is) (attr_absent _ _ _ e)

pub returns-clause-tree : goal.returns-clause-tree
returns-clause-tree c =
    let e : attr_place c.self.inside.attrs.rows c.args.on c.args.name.now ≡ Some c.in-Some.place = cc in
    rw (c.set_value.ensures.rows _ _ e, c.text-value.ensures.text, ← c.self.view_is)
