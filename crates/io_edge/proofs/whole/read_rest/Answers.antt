use Rattle.std.proofs.Common.{arith, ◌∙◌}
use Rattle.std.proofs.lemmas.Grind.{common_steps}
use Rattle.io_edge.proofs.Pieces.{left_after, within, taken_after}
use Rattle.io_edge.proofs.whole.read_rest.Goals as goal

pub pieces-preserved-in-Continue-branch-2 : goal.pieces-preserved-in-Continue-branch-2
pieces-preserved-in-Continue-branch-2 g c =
    let before = c.pieces.invariant in
    let read = c.in_ok-count.ensures in
    record {
      same = grind (arith, common_steps);
      current = grind (arith, common_steps);
      given = grind (arith, common_steps);
      bound = grind (arith, common_steps);
      counted = grind (arith, common_steps, before.counted);
      enough = λ told. within _ _ _ _ (before.left told) (before.enough told) (read.enough (before.same.tells ∙ told));
      left = λ told. left_after _ _ _ _ _ (before.left told) (read.left (before.same.tells ∙ told));
      taken = λ told fits. taken_after _ _ _ _ _ _ _ _ _ (before.left told) (read.enough (before.same.tells ∙ told)) (read.next (before.same.tells ∙ told)) (before.taken told (omega arith)) c.in_ok-extend_from_slice.ensures.items;
    }
