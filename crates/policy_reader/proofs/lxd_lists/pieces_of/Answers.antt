-- One turn takes the first piece of what is left.
use Rattle.std.specs.Option.{option_copied}
use Rattle.policy_reader.proofs.Cuts.{one_item}
use Rattle.policy_reader.proofs.LxdLists.{piece_first}
use Rattle.policy_reader.proofs.lxd_lists.pieces_of.Goals as goal

pub loop-rest-preserved : goal.loop-rest-preserved
loop-rest-preserved c =
    let first = piece_first c.in-Some.left.now c.cut_at.result.0.now (option_copied c.cut_at.result.1) c.cut_at.ensures.front c.cut_at.ensures.rest in
    let before = rw c.in-Some.is at c.loop-rest.invariant in
    rw c.in_ok-push.ensures.items (one_item c.loop-rest.pieces.items c.cut_at.result.0 _ _ _ before first)
