-- Each turn tries the descriptor next to one more of them.
use Rattle.std.proofs.Common.{SFits, [], ◌∷◌, get_or, pos, negsuc, to_z, of_z, w32, arith, rules}
use Rattle.std.proofs.lemmas.Int.{to_z-of_z}
use Rattle.policy_classes.specs.Chosen.{comes_first, is_fresh_descriptor, next_descriptor}
use Rattle.policy_classes.proofs.Tried.{one_more_least}
use Rattle.policy_classes.proofs.chosen.fresh_descriptor.Goals as goal

pub loop-number-preserved : goal.loop-number-preserved
loop-number-preserved c =
    let x = get_or c.args.asked.now c.loop-number.number-index (pos 0) in
    let fits : SFits w32 x = search rules in
    one_more_least comes_first (is_fresh_descriptor c.args.asked.now) (negsuc 99 ∷ pos 0 ∷ negsuc 0 ∷ []) next_descriptor c.args.asked.now
    c.loop-number.number-index (pos 0) (to_z w32 (of_z w32 x)) c.loop-number.best c.lesser_next-best.result (omega arith) (to_z-of_z w32 x fits)
    c.loop-number.invariant c.lesser_next-best.ensures
