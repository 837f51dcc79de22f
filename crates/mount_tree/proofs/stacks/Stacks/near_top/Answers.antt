-- From the node to the one under the stack, and from there to the newest root, the same is seen.
use Rattle.std.proofs.Common.{◌≡◌, true, inl, inr}
use Rattle.std.proofs.lemmas.Bool.{cases_Bool}
use Rattle.mount_tree.proofs.Piled.{near_seen}
use Rattle.mount_tree.proofs.stacks.Stacks.near_top.Goals as goal

pub returns : goal.returns
returns c =
    let p : c.args.self.now.piled ≡ true = elim (cases_Bool c.args.self.now.piled) [ inl h ↦ h | inr h ↦ let e = rw h at c.if-not-self.false in cc ] in
    λ ms h. rw (c.other.ensures, c.other-bottom.ensures) (near_seen ms c.args.self.now c.args.node p h)
