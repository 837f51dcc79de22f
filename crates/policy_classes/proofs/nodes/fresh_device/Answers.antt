-- Each turn tries the number behind one more of them.
use Rattle.std.proofs.Common.{◌+◌, [], ◌∷◌, get_or, refl, arith}
use Rattle.std.specs.Prelude.{nat_lt}
use Rattle.policy_classes.specs.Nodes.{is_fresh_device}
use Rattle.policy_classes.proofs.Tried.{one_more_least}
use Rattle.policy_classes.proofs.nodes.fresh_device.Goals as goal

pub loop-dev-preserved : goal.loop-dev-preserved
loop-dev-preserved c =
    one_more_least nat_lt (is_fresh_device c.args.asked.now) (0 ∷ []) (λ n. n + 1) c.args.asked.now c.loop-dev.dev-index 0 (get_or c.args.asked.now c.loop-dev.dev-index 0)
    c.loop-dev.best c.lesser_next-best.result (omega arith) refl c.loop-dev.invariant c.lesser_next-best.ensures
